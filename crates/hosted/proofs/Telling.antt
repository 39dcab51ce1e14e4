-- Nothing was written of a line.
use Rattle.std.proofs.Common.{ℕ, List, Option, rules}
use Rattle.host_list.specs.declared.rule.Refusal.{Refusal}
use Rattle.outside.specs.Prefixes.{AppendsPrefix}
use Rattle.udp_node.proofs.EffectLemmas.{Appends_none}
use Rattle.host_places.specs.Refusals.{refusal_line}
use Rattle.hosted.specs.Texts.{usage_line}

pub no_usage : (program : List ℕ) (h : Option (List ℕ)) → AppendsPrefix h h (usage_line program)
unfolding usage_line
no_usage program h = record { count = 0; below = search rules; appended = Appends_none h }

pub no_refusal : (refusal : Refusal) (h : Option (List ℕ)) → AppendsPrefix h h (refusal_line refusal)
unfolding refusal_line
no_refusal refusal h = record { count = 0; below = search rules; appended = Appends_none h }
