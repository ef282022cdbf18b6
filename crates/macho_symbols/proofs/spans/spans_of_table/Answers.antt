-- The names of the spans are those of the symbols that take part.
use Rattle.macho_symbols.proofs.spans.spans_of_table.Goals as goal

pub returns-clause-names : goal.returns-clause-names
returns-clause-names c = c.in_ok-spans.ensures.named c.args.table.file.now (rw c.deref.ensures.value c.in_ok-taking.ensures.named)
