-- Rewrites as contracts see them.
use Rattle.config_text.specs.declared.config.Rewrite.{Rewrite}
use Rattle.custom_rewrites.specs.declared.rewriting.CompiledRewrite.{CompiledRewrite}
use Rattle.custom_rewrites.specs.declared.rewriting.RewriteFinder.{RewriteFinder}

-- A rewrite with its compiled pattern, as contracts see it.
abbrev pub shown_compiled : CompiledRewrite → Rewrite
shown_compiled m = record { pattern = m.pattern; replacement = m.replacement }

-- A rewrite with its finder, as contracts see it.
abbrev pub shown_finder : RewriteFinder → Rewrite
shown_finder r = record { pattern = r.finder; replacement = r.replacement.now }
