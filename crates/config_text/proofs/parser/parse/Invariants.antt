use Rattle.std.proofs.Common.{◌≡◌, length}
use Rattle.config_text.specs.Tokens.{ahead}
use Rattle.config_text.specs.Grammar.{Item, InFile}
use Rattle.config_text.specs.Config.{config, sources_from}
use Rattle.config_text.specs.Drafts.{in_file}
use Rattle.config_text.proofs.parser.parse.Given as goal

abbrev pub invariant-sources : goal.invariant-sources
invariant-sources l = config l.text ≡ sources_from (ahead l.reader) (Item InFile) (in_file l.sources.items l.begun)

abbrev pub decreases-sources : goal.decreases-sources
decreases-sources l = length l.reader.rest
