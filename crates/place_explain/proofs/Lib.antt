mod ExplainLemmas
