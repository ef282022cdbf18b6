use Rattle.std.proofs.Common.{rules, ◌≡◌, ◌∙◌, ℕ, ◌+◌, ◌-◌, ap, ap₂, sym, subst, List, [], false, drop, length, map, min, nat_lt, take, String, string_bytes}
use Rattle.std.proofs.lemmas.List.{take_rest}
use Rattle.std.specs.declared.alloc.Global.{Global}
use Rattle.std.proofs.lemmas.Result.{err_from_is_err_and}
use Rattle.clap.specs.Words.{Text}
use Rattle.size_options.specs.Answers.{KeepsLimits, word_errors}
use Rattle.size_options.specs.Asked.{given_by, options_in}
use Rattle.size_options.specs.Command.{errors_of, rows_by}
use Rattle.size_options.specs.Given.{given_in, texts_of}
use Rattle.size_options.specs.Words.{base_words, mark_at, seen_words}
use Rattle.size_options.proofs.Limits.{limits_kept}
use Rattle.size_options.proofs.UsageLemmas.{first_is, no_base_words, options_are, refusal_is, usage_is, words_after, words_before}
use Rattle.size_options.specs.declared.run_options.Options.{Options}
use Rattle.size_options.proofs.parse.options.Goals as goal

pub returns-in_err-matches-clause-refused : goal.returns-in_err-matches-clause-refused
returns-in_err-matches-clause-refused c =
    let words = seen_words c.args.words.now in
    let p = err_from_is_err_and c.from_residual.result c.from_residual.ensures.1 in
    let before = words_before string_bytes c.args.words.now _ c.mark_at-end.ensures.at in
    rw (p.1, p.2) (refusal_is words _ before _ c.in_err-matches.ensures.unread)

pub returns-in-Some-clause-refused : goal.returns-in-Some-clause-refused
returns-in-Some-clause-refused c =
    let words = seen_words c.args.words.now in
    let before = words_before string_bytes c.args.words.now _ c.mark_at-end.ensures.at in
    let given : texts_of c.given_of-given.result ≡ given_by words
    = c.given_of-given.ensures ∙ ap given_in (c.in_ok-matches.ensures.rows ∙ ap rows_by before) in
    let read : word_errors words ≡ [] = sym (ap errors_of before) ∙ c.in_ok-matches.ensures.read in
    usage_is words _ read (sym c.in-Some.is ∙ first_is string_bytes c.args.words.now _ _ _ c.mark_at-end.ensures.at given c.usage_of.ensures)

-- The arguments from an index on.
abbrev rest : List (String Global) → ℕ → List Text
rest words from = map string_bytes (take (length words - from) (drop from words))

bases_are : (words : List (String Global)) (end from : ℕ) → end ≡ mark_at (seen_words words) → from ≡ min (end + 1) (length words)
    → rest words from ≡ base_words (seen_words words)
bases_are words end from at is = ap (map string_bytes) (take_rest words from ∙ ap (λ n. drop n words) is) ∙ words_after string_bytes words end at

pub returns-clause-asked : goal.returns-clause-asked
returns-clause-asked c =
    let words = seen_words c.args.words.now in
    let before = words_before string_bytes c.args.words.now _ c.mark_at-end.ensures.at in
    let given : texts_of c.given_of-given.result ≡ given_by words
    = c.given_of-given.ensures ∙ ap given_in (c.in_ok-matches.ensures.rows ∙ ap rows_by before) in
    let from : c.min.result ≡ min (c.mark_at-end.result + 1) (length c.args.words.now) = search rules in
    let made : c.in_ok-options_of-in-None.field-0 ≡ options_in (texts_of c.given_of-given.result) (rest c.args.words.now c.min.result) = search rules in
    options_are words _ (sym c.in-None.is ∙ first_is string_bytes c.args.words.now _ _ _ c.mark_at-end.ensures.at given c.usage_of.ensures)
    (made ∙ ap₂ options_in given (bases_are c.args.words.now _ _ c.mark_at-end.ensures.at from))

pub returns-clause-read : goal.returns-clause-read
returns-clause-read c =
    let before = words_before string_bytes c.args.words.now _ c.mark_at-end.ensures.at in
    sym (ap errors_of before) ∙ c.in_ok-matches.ensures.read

pub returns-clause-limits : goal.returns-clause-limits
returns-clause-limits c =
    let from : c.min.result ≡ min (c.mark_at-end.result + 1) (length c.args.words.now) = search rules in
    let made : c.in_ok-options_of-in-None.field-0 ≡ options_in (texts_of c.given_of-given.result) (rest c.args.words.now c.min.result) = search rules in
    let bare : nat_lt c.mark_at-end.result (length c.args.words.now) ≡ false → rest c.args.words.now c.min.result ≡ []
    = λ none. bases_are c.args.words.now _ _ c.mark_at-end.ensures.at from ∙ no_base_words string_bytes c.args.words.now _ c.mark_at-end.ensures.at none in
    subst (λ (o : Options). KeepsLimits o) (sym made) (limits_kept (texts_of c.given_of-given.result) _ _ _ bare (sym c.usage_of.ensures ∙ c.in-None.is))
