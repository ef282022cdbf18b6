use Rattle.std.proofs.Common.{◌≡◌, ◌≤◌, length}
use Rattle.config_text.specs.Tokens.{ahead}
use Rattle.config_text.specs.Grammar.{Draft, Item, Opening, InRewrite, no_rewrite}
use Rattle.config_text.specs.Config.{sources_from}
use Rattle.config_text.specs.Drafts.{in_rewrite}
use Rattle.config_text.proofs.parser.read_rewrite.Given as goal

abbrev pub invariant-parts : goal.invariant-parts
invariant-parts l = record {
  same : (d : Draft) → sources_from (ahead l.fn.reader) (Opening InRewrite) (in_rewrite d no_rewrite)
      ≡ sources_from (ahead l.reader) (Item InRewrite) (in_rewrite d l.parts);
  left : length l.reader.rest ≤ length l.fn.reader.rest;
}

abbrev pub decreases-parts : goal.decreases-parts
decreases-parts l = length l.reader.rest
