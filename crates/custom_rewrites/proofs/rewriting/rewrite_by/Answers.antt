use Rattle.std.proofs.Common.{rules, ◌≡◌, ◌∙◌, ◌<◌, ◌+◌, ◌++◌, List, ℕ, option_map, map, drop, slice_set, length, sym, ap, arith}
use Rattle.custom_rewrites.specs.declared.rewriting.RewriteFinder.{RewriteFinder}
use Rattle.custom_rewrites.specs.Rewriting.{rewritten}
use Rattle.custom_rewrites.specs.Shown.{shown_finder}
use Rattle.custom_rewrites.proofs.RewriteLemmas.{first_applies, first_fails, put_back}
use Rattle.custom_rewrites.proofs.rewriting.rewrite_by.Goals as goal

pub returns-in-Some-clause-ok : goal.returns-in-Some-clause-ok
returns-in-Some-clause-ok c =
    let x = c.index_mut.result.now in
    let within : c.rewrites.i < length c.rewrites.ready.items = omega arith in
    let text = c.in-Some.text.items in
    let found = sym c.in_ok-text.ensures.text ∙ ap (option_map (λ v. v.items)) c.in-Some.is in
    let is : rewritten c.args.label.now (map shown_finder c.args.ready.now.items) ≡ text =
    c.rewrites.invariant.text ∙ first_applies c.args.label.now c.rewrites.ready.items c.rewrites.i x within c.index_mut.ensures.value text found in
    let grown : c.extend_from_slice.new.self.items ≡ c.rewrites.out.items ++ text = search rules in
    grown ∙ ap (λ (bytes : List ℕ). bytes ++ text) c.rewrites.invariant.kept ∙ ap (λ (bytes : List ℕ). c.args.out.now.items ++ bytes) (sym is)

pub rewrites-preserved : goal.rewrites-preserved
rewrites-preserved c =
    let x = c.index_mut.result.now in
    let within : c.rewrites.i < length c.rewrites.ready.items = omega arith in
    let none = sym c.in_ok-text.ensures.text ∙ ap (option_map (λ v. v.items)) c.in_default.is in
    let back : slice_set c.rewrites.ready.items c.rewrites.i c.replaced_by.new.ready ≡ c.rewrites.ready.items =
    put_back c.args.label.now c.rewrites.ready.items c.rewrites.i x within c.index_mut.ensures.value c.replaced_by.new.ready c.in_ok-text.ensures.same in
    record {
      kept = c.rewrites.invariant.kept;
      same = back ∙ c.rewrites.invariant.same;
      text = c.rewrites.invariant.text
          ∙ first_fails c.args.label.now c.rewrites.ready.items c.rewrites.i x within c.index_mut.ensures.value none
          ∙ ap (λ (items : List RewriteFinder). rewritten c.args.label.now (drop (c.rewrites.i + 1) (map shown_finder items))) (sym back);
    }
