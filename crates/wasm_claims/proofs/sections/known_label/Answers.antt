use Rattle.std.proofs.Common.{rules}
use Rattle.wasm_claims.proofs.sections.known_label.Goals as goal

pub returns-then-section-eq-CUSTOM : goal.returns-then-section-eq-CUSTOM
returns-then-section-eq-CUSTOM c = search rules
