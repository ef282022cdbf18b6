use Rattle.std.proofs.Common.{◌≡◌, ◌≢◌, ◌∙◌, ℕ, ◌<◌, List, sym, ap, true, arith}
use Rattle.std.proofs.lemmas.Grind.{common_steps}
use Rattle.std.specs.Str.{bytes_eq}
use Rattle.size_core.proofs.Gathered.{first_here}
use Rattle.elf_file.specs.declared.section.SectionHeader.{SectionHeader}
use Rattle.elf_file.specs.Tables.{section_at, section_count}
use Rattle.elf_file.specs.Names.{has_name, name_of}
use Rattle.elf_file.proofs.file.ElfFile.find.Goals as goal

counts : (file name : List ℕ) (i kind : ℕ) → 0 < i → kind ≢ 0 → kind ≡ (section_at file i).kind → bytes_eq (name_of file i) name ≡ true → has_name file name i ≡ true
counts file name i kind above some is same = grind (arith, common_steps)

pub returns-then-eq : goal.returns-then-eq
returns-then-eq c =
    let kind : c.section-section.result.kind ≡ (section_at c.args.self.now c.loop-i.i).kind = ap (λ (s : SectionHeader). s.kind) c.section-section.ensures.numbers in
    let same : bytes_eq (name_of c.args.self.now c.loop-i.i) c.args.name.now ≡ true = rw (← c.section-section.ensures.name) (sym c.eq.ensures ∙ c.if-eq.true) in
    let below : c.loop-i.i < section_count c.args.self.now = rw (← c.self.view_is, ← c.self.invariant.section_table.sections_are) c.loop-i-test.true in
    let here : has_name c.args.self.now c.args.name.now c.loop-i.i ≡ true = counts c.args.self.now c.args.name.now c.loop-i.i c.section-section.result.kind (omega arith) c.if-section-ne-SHT_NULL.true kind same in
    sym (first_here (has_name c.args.self.now c.args.name.now) (section_count c.args.self.now) c.loop-i.i below here) ∙ c.loop-i.invariant
