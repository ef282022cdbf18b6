use Rattle.config_text.proofs.TokenLemmas.{word_ahead}
use Rattle.config_text.proofs.reader.Reader.word.Goals as goal

pub returns-clause-word : goal.returns-clause-word
returns-clause-word c =
    word_ahead c.args.self.now c.self.inside.at c.self.inside.rest.now _ _ c.word_len-len.result c.self.view_is c.requires
    c.word_len-len.ensures.within c.word_len-len.ensures.inside c.word_len-len.ensures.end c.split_at.ensures.front c.split_at.ensures.back
