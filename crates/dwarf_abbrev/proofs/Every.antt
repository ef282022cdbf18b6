-- Properties of what is read.
use Rattle.std.proofs.Common.{ℕ, Result, Ok, Err}
use Rattle.size_core.specs.declared.fault.BadFile.{BadFile}
use Rattle.size_core.specs.Checks.{◌>>=◌, ◌>>◌, Check}
use Rattle.dwarf_abbrev.specs.Reads.{faults_at}

-- What is read has a property.
unfoldable pub Every : {X : Type 0} → (X → Type 0) → Result X BadFile → Type 0
Every P (Ok x) = P x
Every P (Err e) = Unit {0}

pub bind_every : {A B : Type 0} (P : B → Type 0) (r : Result A BadFile) (f : A → Result B BadFile) → ((x : A) → Every P (f x)) → Every P (r >>= f)
unfolding Every
bind_every P (Ok x) f h = h x
bind_every P (Err e) f h = tt

pub bind_some : {A B : Type 0} (Q : A → Type 0) (P : B → Type 0) (r : Result A BadFile) (f : A → Result B BadFile) → Every Q r → ((x : A) → Q x → Every P (f x)) → Every P (r >>= f)
unfolding Every
bind_some Q P (Ok x) f q h = h x q
bind_some Q P (Err e) f q h = tt

pub after_check_every : {B : Type 0} (P : B → Type 0) (c : Check) (r : Result B BadFile) → Every P r → Every P (c >> r)
unfolding Every
after_check_every P (Ok x) r h = h
after_check_every P (Err e) r h = tt

pub faults_every : {X : Type 0} (P : X → Type 0) (place : ℕ) (r : Result X BadFile) → Every P r → Every P (faults_at place r)
unfolding Every
faults_every P place (Ok x) h = h
faults_every P place (Err e) h = tt
