-- Reading a datagram from left to right, with the first test that fails.
use Rattle.std.specs.Prelude.{◌≡◌, ℕ, Bool, List, ◌∷◌, length, Option, Some, None, ok_or, Result, Ok, Err, nat_lt, ◌==◌, ◌&&◌, not, ⊤}
use Rattle.std.specs.Prelude.{if◌then◌else◌}
use Rattle.nop_types.specs.declared.datagram.Datagram.{Datagram}
use Rattle.nop_types.specs.declared.datagram.Datagram.TheVariants as datagrams
use Rattle.oum_codec.specs.declared.bad.Bad.{Bad}
use Rattle.oum_codec.specs.declared.bad.Bad.TheVariants.{Short, Magic, Version, Kind, Field, Trailing, NoMemory}
use Rattle.oum_codec.specs.declared.fixed.InstallFields.{InstallFields}
use Rattle.oum_codec.specs.declared.fixed.PingFields.{PingFields}
use Rattle.nop_types.specs.declared.kinds.TheConstants as kinds
use Rattle.nop_types.specs.declared.limits.TheConstants.{FRAGMENT_BYTES}
use Rattle.oum_codec.specs.Fixed.{request_fields_at, request_in_range, stamped_fields_at, stamped_in_range, reply_fields_at, reply_in_range}
use Rattle.oum_codec.specs.Fixed.{install_fields_at, install_in_range, ping_fields_at, ping_in_range, fragment_fields_at, fragment_in_range}
use Rattle.oum_codec.specs.Fixed.{least_payload, read_in_range, answer_fields_at, answer_in_range}
pub use Rattle.nop_types.specs.Results.{◌>>=◌}

-- reading fails with this error; being out of memory says nothing of it
abbrev pub Fails : {A : Type 0} → Bad → Result A Bad → Type 0
Fails NoMemory read = ⊤
Fails e read = read ≡ Err e

-- what was returned, seen by view, is what reading gives, unless memory ran out
abbrev pub GivesBy : {A B : Type 0} → (A → B) → Result A Bad → Result B Bad → Type 0
GivesBy view (Ok x) read = read ≡ Ok (view x)
GivesBy view (Err e) read = Fails e read

-- what was returned, as it is, is what reading gives, unless memory ran out
abbrev pub Gives : {A : Type 0} → Result A Bad → Result A Bad → Type 0
Gives result read = GivesBy (λ x. x) result read

-- what was found is what reading gives: a value, or nothing where a test fails
abbrev pub Finds : {A E : Type 0} → Option A → Result A E → Type 0
Finds {A} {E} (Some x) read = read ≡ Ok x
Finds {A} {E} None read = (e : E) × (read ≡ Err e)

-- all fields of a fixed size are there, then all of them are in range
abbrev pub fields_of : {F : Type 0} → Option (F × List ℕ) → (F → Bool) → Result (F × List ℕ) Bad
fields_of found test = ok_or found Short >>= λ f. if test f.0 then Ok f else Err Field

-- there are at least `least` bytes, and at most `most`
abbrev pub sized : ℕ → ℕ → List ℕ → Result (List ℕ) Bad
sized least most bytes = if nat_lt (length bytes) least then Err Short else if nat_lt most (length bytes) then Err Trailing else Ok bytes

-- what follows the four bytes of a request
unfoldable pub request_of : List ℕ → Result Datagram Bad
request_of bytes = do
  f ← fields_of (request_fields_at bytes) request_in_range
  op ← sized f.0.op_len f.0.op_len f.1
  Ok (datagrams.Request (record { client = f.0.client; id = f.0.id; op = op }))

-- of a stamped request
unfoldable pub stamped_of : List ℕ → Result Datagram Bad
stamped_of bytes = do
  f ← fields_of (stamped_fields_at bytes) stamped_in_range
  op ← sized f.0.request.op_len f.0.request.op_len f.1
  Ok (datagrams.Stamped
      (record {
        session = f.0.session;
        number = f.0.number;
        request =
            record { client = f.0.request.client; id = f.0.request.id; op = op };
      }))

-- of a reply
unfoldable pub reply_of : List ℕ → Result Datagram Bad
reply_of bytes = do
  f ← fields_of (reply_fields_at bytes) reply_in_range
  bytes ← sized f.0.result_len f.0.result_len f.1
  Ok (datagrams.Reply
      (record { replica = f.0.replica; view = f.0.view; slot = f.0.slot; client = f.0.client; id = f.0.id; tag = f.0.tag; result = bytes }))

-- of an install or an installed: nothing follows their fields
unfoldable pub install_of : List ℕ → Result InstallFields Bad
install_of bytes = do
  f ← fields_of (install_fields_at bytes) install_in_range
  nothing ← sized 0 0 f.1
  Ok f.0

-- of a ping or a pong, likewise
unfoldable pub ping_of : List ℕ → Result PingFields Bad
ping_of bytes = do
  f ← fields_of (ping_fields_at bytes) ping_in_range
  nothing ← sized 0 0 f.1
  Ok f.0

-- of a fragment
unfoldable pub fragment_of : List ℕ → Result Datagram Bad
fragment_of bytes = do
  f ← fields_of (fragment_fields_at bytes) fragment_in_range
  payload ← sized (least_payload f.0) FRAGMENT_BYTES f.1
  Ok (datagrams.Fragment (record { replica = f.0.replica; message = f.0.message; index = f.0.index; count = f.0.count; payload = payload }))

-- of a read
unfoldable pub read_of : List ℕ → Result Datagram Bad
read_of bytes = do
  f ← fields_of (request_fields_at bytes) read_in_range
  key ← sized f.0.op_len f.0.op_len f.1
  Ok (datagrams.Read (record { client = f.0.client; id = f.0.id; key = key }))

-- of an answer
unfoldable pub answer_of : List ℕ → Result Datagram Bad
answer_of bytes = do
  f ← fields_of (answer_fields_at bytes) answer_in_range
  bytes ← sized f.0.result_len f.0.result_len f.1
  Ok (datagrams.Answer
      (record { observer = f.0.observer; position = f.0.position; client = f.0.client; id = f.0.id; result = bytes }))

-- what follows the four bytes, by the kind
abbrev pub body_of : ℕ → List ℕ → Result Datagram Bad
body_of kind rest =
    if kind == kinds.REQUEST then request_of rest
    else if kind == kinds.STAMPED then stamped_of rest
    else if kind == kinds.REPLY then reply_of rest
    else if kind == kinds.INSTALL then (install_of rest >>= λ f. Ok (datagrams.Install f.controller f.sequencer f.session))
    else if kind == kinds.INSTALLED then (install_of rest >>= λ f. Ok (datagrams.Installed f.controller f.sequencer f.session))
    else if kind == kinds.PING then (ping_of rest >>= λ f. Ok (datagrams.Ping f.controller f.sequencer f.round))
    else if kind == kinds.PONG then (ping_of rest >>= λ f. Ok (datagrams.Pong f.controller f.sequencer f.round))
    else if kind == kinds.FRAGMENT then fragment_of rest
    else if kind == kinds.READ then read_of rest
    else if kind == kinds.ANSWER then answer_of rest
    else Err Kind

-- the value that the bytes spell, or the first test that they fail
unfoldable pub reading : List ℕ → Result Datagram Bad
reading (first ∷ second ∷ version ∷ kind ∷ rest) =
    if not (first == kinds.FIRST_MAGIC && second == kinds.SECOND_MAGIC) then Err Magic
    else if not (version == kinds.VERSION) then Err Version
    else body_of kind rest
reading _ = Err Short
