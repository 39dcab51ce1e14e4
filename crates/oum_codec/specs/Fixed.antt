-- The fields of each kind that have a fixed size, up to an op, a key, a result or a payload: where all of them are there, and
-- whether all of them are in range.
use Rattle.std.specs.Prelude.{ℕ, ◌+◌, Bool, List, Option, Some, nat_lt, nat_le, ◌&&◌, ◌||◌, if◌then◌else◌}
use Rattle.std.specs.Int.{w16, w32, w64}
use Rattle.nop_types.specs.declared.limits.TheConstants.{FRAGMENT_BYTES, MAX_CONTROLLERS, MAX_FRAGMENTS, MAX_KEY_BYTES}
use Rattle.nop_types.specs.declared.limits.TheConstants.{MAX_OBSERVERS, MAX_OP_BYTES, MAX_REPLICAS, MAX_RESULT_BYTES}
use Rattle.nop_types.specs.declared.limits.TheConstants.{MAX_SEQUENCERS, NUMBER_END}
use Rattle.oum_codec.specs.declared.fixed.RequestFields.{RequestFields}
use Rattle.oum_codec.specs.declared.fixed.StampedFields.{StampedFields}
use Rattle.oum_codec.specs.declared.fixed.ReplyFields.{ReplyFields}
use Rattle.oum_codec.specs.declared.fixed.InstallFields.{InstallFields}
use Rattle.oum_codec.specs.declared.fixed.PingFields.{PingFields}
use Rattle.oum_codec.specs.declared.fixed.FragmentFields.{FragmentFields}
use Rattle.oum_codec.specs.declared.fixed.AnswerFields.{AnswerFields}
use Rattle.oum_codec.specs.Numbers.{◌>>=◌, number_at, byte_at, view_at}

-- of a request: client, id and length of the op; of a read: client, id and length of the key
unfoldable pub request_fields_at : List ℕ → Option (RequestFields × List ℕ)
request_fields_at bytes = do
  client ← number_at w32 bytes
  id ← number_at w64 client.1
  op_len ← number_at w16 id.1
  Some (record { client = client.0; id = id.0; op_len = op_len.0 }, op_len.1)

-- ids count from 1
abbrev pub request_in_range : RequestFields → Bool
request_in_range f = nat_lt 0 f.id && nat_le f.op_len MAX_OP_BYTES

-- ids of reads count from 1 too, and no key is empty
abbrev pub read_in_range : RequestFields → Bool
read_in_range f = nat_lt 0 f.id && (nat_lt 0 f.op_len && nat_le f.op_len MAX_KEY_BYTES)

-- of a stamped request: session and number, then those of a request
unfoldable pub stamped_fields_at : List ℕ → Option (StampedFields × List ℕ)
stamped_fields_at bytes = do
  session ← number_at w64 bytes
  number ← number_at w64 session.1
  request ← request_fields_at number.1
  Some (record { session = session.0; number = number.0; request = request.0 }, request.1)

-- sessions and numbers count from 1
abbrev pub stamped_in_range : StampedFields → Bool
stamped_in_range f = nat_lt 0 f.session && (nat_lt 0 f.number && (nat_lt f.number NUMBER_END && request_in_range f.request))

-- of a reply
unfoldable pub reply_fields_at : List ℕ → Option (ReplyFields × List ℕ)
reply_fields_at bytes = do
  replica ← byte_at bytes
  view ← view_at replica.1
  slot ← number_at w32 view.1
  client ← number_at w32 slot.1
  id ← number_at w64 client.1
  tag ← byte_at id.1
  result_len ← number_at w16 tag.1
  Some (
    record { replica = replica.0; view = view.0; slot = slot.0; client = client.0; id = id.0; tag = tag.0; result_len = result_len.0 },
    result_len.1,
  )

-- with tag 0 there is no result
abbrev pub tag_fits : ℕ → ℕ → Bool
tag_fits tag result_len = nat_le tag 1 && (nat_le result_len MAX_RESULT_BYTES && (nat_lt 0 tag || nat_le result_len 0))

-- sessions, slots and ids count from 1
abbrev pub reply_in_range : ReplyFields → Bool
reply_in_range f =
    nat_lt f.replica MAX_REPLICAS && (nat_lt 0 f.view.session && (nat_lt 0 f.slot && (nat_lt 0 f.id && tag_fits f.tag f.result_len)))

-- of an install or an installed: the numbers of a controller and a sequencer, and a session
unfoldable pub install_fields_at : List ℕ → Option (InstallFields × List ℕ)
install_fields_at bytes = do
  controller ← byte_at bytes
  sequencer ← byte_at controller.1
  session ← number_at w64 sequencer.1
  Some (record { controller = controller.0; sequencer = sequencer.0; session = session.0 }, session.1)

-- sessions count from 1
abbrev pub install_in_range : InstallFields → Bool
install_in_range f = nat_lt f.controller MAX_CONTROLLERS && (nat_lt f.sequencer MAX_SEQUENCERS && nat_lt 0 f.session)

-- of a ping or a pong: the same numbers, and a round
unfoldable pub ping_fields_at : List ℕ → Option (PingFields × List ℕ)
ping_fields_at bytes = do
  controller ← byte_at bytes
  sequencer ← byte_at controller.1
  round ← number_at w32 sequencer.1
  Some (record { controller = controller.0; sequencer = sequencer.0; round = round.0 }, round.1)

-- rounds count from 1
abbrev pub ping_in_range : PingFields → Bool
ping_in_range f = nat_lt f.controller MAX_CONTROLLERS && (nat_lt f.sequencer MAX_SEQUENCERS && nat_lt 0 f.round)

-- of a fragment
unfoldable pub fragment_fields_at : List ℕ → Option (FragmentFields × List ℕ)
fragment_fields_at bytes = do
  replica ← byte_at bytes
  message ← number_at w64 replica.1
  index ← number_at w16 message.1
  count ← number_at w16 index.1
  Some (record { replica = replica.0; message = message.0; index = index.0; count = count.0 }, count.1)

-- messages count from 1, indexes from 0
abbrev pub fragment_in_range : FragmentFields → Bool
fragment_in_range f = nat_lt f.replica MAX_REPLICAS && (nat_lt 0 f.message && (nat_lt f.index f.count && nat_le f.count MAX_FRAGMENTS))

-- each payload but the last is full, and no payload is empty
abbrev pub least_payload : FragmentFields → ℕ
least_payload f = if nat_lt (f.index + 1) f.count then FRAGMENT_BYTES else 1

-- of an answer
unfoldable pub answer_fields_at : List ℕ → Option (AnswerFields × List ℕ)
answer_fields_at bytes = do
  observer ← byte_at bytes
  position ← number_at w32 observer.1
  client ← number_at w32 position.1
  id ← number_at w64 client.1
  result_len ← number_at w16 id.1
  Some (
    record { observer = observer.0; position = position.0; client = client.0; id = id.0; result_len = result_len.0 },
    result_len.1,
  )

-- ids count from 1, positions from 0
abbrev pub answer_in_range : AnswerFields → Bool
answer_in_range f = nat_lt f.observer MAX_OBSERVERS && (nat_lt 0 f.id && nat_le f.result_len MAX_RESULT_BYTES)
