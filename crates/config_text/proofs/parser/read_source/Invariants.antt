use Rattle.std.proofs.Common.{◌≡◌, ◌≤◌, length}
use Rattle.config_text.specs.Tokens.{ahead}
use Rattle.config_text.specs.Grammar.{Item, Opening, InSource}
use Rattle.config_text.specs.Config.{sources_from}
use Rattle.config_text.specs.Drafts.{in_file, in_source}
use Rattle.config_text.proofs.parser.read_source.Given as goal

abbrev pub invariant-fields : goal.invariant-fields
invariant-fields l = record {
  same : sources_from (ahead l.fn.reader) (Opening InSource) (in_file l.sources l.fn.begun)
      ≡ sources_from (ahead l.reader) (Item InSource) (in_source l.sources l.begun l.parts);
  left : length l.reader.rest ≤ length l.fn.reader.rest;
}

abbrev pub decreases-fields : goal.decreases-fields
decreases-fields l = length l.reader.rest
