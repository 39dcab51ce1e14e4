-- Which messages go to a port, and which are refused or given up.
use Rattle.std.specs.Prelude.{ℕ, Bool, false, ◌==◌, Option, Some, None, if◌then◌else◌}
use Rattle.resending.specs.declared.names.Topic.{Topic}
use Rattle.resending.specs.declared.topics.Begun.{Begun}
use Rattle.resending.specs.declared.topics.Choice.{Choice}
use Rattle.resending.specs.declared.topics.Choice.TheVariants.{Goes, Refused, Replaces}
use Rattle.resending.specs.declared.topics.Topics.{Topics}
use Rattle.resending.specs.Names.{same_view}

abbrev pub no_topics : Topics
no_topics = record { last = None; refused = None }

abbrev pub is_some_number : Option ℕ → ℕ → Bool
is_some_number None n = false
is_some_number (Some m) n = m == n

-- while another message is on its way: of another view it makes that one useless, of the same kind and view it has to wait
abbrev pub beside : Begun → ℕ → Topic → Choice
beside last message topic =
    if last.message == message then Goes
    else if same_view last.topic topic then (if last.topic.kind == topic.kind then Refused else Goes)
    else Replaces

abbrev pub beside_last : Option Begun → Bool → ℕ → Topic → Choice
beside_last None is_at_rest message topic = Goes
beside_last (Some last) is_at_rest message topic = if is_at_rest then Goes else beside last message topic

abbrev pub choice : Bool → ℕ → Topic → Topics → Choice
choice is_at_rest message topic t =
    if is_some_number t.refused message then Refused else beside_last t.last is_at_rest message topic

abbrev pub last_begun : Option Begun → ℕ → Topic → Begun
last_begun None message topic = record { message = message; topic = topic }
last_begun (Some last) message topic = if last.message == message then last else record { message = message; topic = topic }

abbrev pub begun : ℕ → Topic → Topics → Topics
begun message topic t = record t { last = Some (last_begun t.last message topic) }

abbrev pub refusing : ℕ → Topics → Topics
refusing message t = record t { refused = Some message }
