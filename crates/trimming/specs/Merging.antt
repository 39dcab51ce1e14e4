-- What the merge of whole logs has where they agree.
use Rattle.std.specs.Prelude.{◌≡◌, List, take, IfSome}
use Rattle.nop_types.specs.declared.peer.Change.{Change}
use Rattle.nop_types.specs.Meaning.{Meaning}
use Rattle.nop_types.specs.Logs.{Whole}
use Rattle.log_merge.specs.Merging.{best, merge_above}
use Rattle.trimming.specs.Trimming.{trim}

abbrev pub trim_change : {S : Type 0} → Meaning S → Change → Change
trim_change m c = record c { log = trim m c.log }

-- the merge of whole logs begins with what the best has up to its sync point
abbrev pub Agree : List Change → Type 0
Agree cs = IfSome (best cs) (λ g. take g.log.sync_point (merge_above Whole 0 cs) ≡ take g.log.sync_point g.log.entries)
