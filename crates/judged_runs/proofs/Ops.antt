-- The ops and the keys of a schedule that is read are bytes, and short.
use Rattle.std.proofs.Common.{◌≡◌, ℕ, ◌+◌, Bool, true, false, Option, Some, None, refl, ap, subst, List, [], ◌∷◌, length}
use Rattle.std.specs.Prelude.{⊤, ◌&&◌, codes, nat_le, not, Result, Ok, Err, if◌then◌else◌}
use Rattle.lemmas.proofs.Bytes.{no_bytes}
use Rattle.hex.specs.Hex.{IsBytes, decode_of}
use Rattle.hex.specs.declared.error.FromHexError.{FromHexError}
use Rattle.hex.proofs.HexLemmas.{decode_of-ok}
use Rattle.line_fields.specs.Fields.{is_text, actor_of, client_number, sequencer_number, observer_number, number_of, as_option, bytes_of}
use Rattle.line_fields.specs.Fields.{key_in, key_of, fields}
use Rattle.nop_types.specs.Configuration.{Configuration}
use Rattle.nop_types.specs.Meaning.{Meaning}
use Rattle.nop_types.specs.declared.limits.TheConstants.{MAX_KEY_BYTES, MAX_LINES}
use Rattle.schedule_text.specs.Fits.{EventFits, EventsFit}
use Rattle.schedule_text.specs.Rules.{◌>>=◌, or_rule, keeps_rule, max_op_text, max_junk_text, max_key_text, one_field, two_fields}
use Rattle.schedule_text.specs.Rules.{three_fields, submit_event, read_event, read_of}
use Rattle.schedule_text.specs.Rules.{one_or_two_fields, ordered, install_event}
use Rattle.schedule_text.specs.Rules.{submit_of, deliver_event, deliver_of, tick_event, tick_of, install_of, crash_of, junk_event}
use Rattle.schedule_text.specs.Rules.{junk_of, event_of_fields, plain_line}
use Rattle.schedule_text.specs.Rules.{event_of}
use Rattle.schedule_text.specs.Ticks.{tick_named, takes_tick}
use Rattle.schedule_text.specs.declared.event.Event.{Event}
use Rattle.schedule_text.specs.declared.event.Event.TheVariants.{Submit, Deliver, Tick, Install, Read, Crash, Junk}
use Rattle.schedule_text.specs.declared.rule.Rule.{Rule}
use Rattle.schedule_text.specs.declared.rule.Rule.TheVariants.{WrongWord, WrongField, WrongHex, WrongActor, TooManyLines}
use Rattle.schedule_text.proofs.Fitting.{then_ok, value_ok, events_fit}
use Rattle.world.specs.WorldSteps.{WorldState, Happened, Refusal, step}
use Rattle.replay.specs.Output.{Schedule, stepped, scheduled, schedule_from}

-- an op that is submitted, and a key that is asked for
abbrev pub OpIsBytes : Event → Type 0
OpIsBytes (Submit client op) = IsBytes op
OpIsBytes (Read client observer key) = IsBytes key
OpIsBytes _ = ⊤

-- ---- a field of digits

decoded : (r : Result (List ℕ) FromHexError) (bytes : List ℕ) → as_option r ≡ Some bytes → r ≡ Ok bytes
decoded (Ok xs) bytes e = let same : xs ≡ bytes = cc in ap Ok same
decoded (Err x) bytes e = absurd cc

digits_bytes : (text bytes : List ℕ) (b : Bool) → (if b then Some [] else as_option (decode_of text)) ≡ Some bytes → IsBytes bytes
digits_bytes text bytes true e = let same : [] ≡ bytes = cc in subst IsBytes same no_bytes
digits_bytes text bytes false e = (decode_of-ok text bytes (decoded (decode_of text) bytes e)).3

pub field_bytes : (field bytes : List ℕ) → bytes_of field ≡ Some bytes → IsBytes bytes
unfolding bytes_of
field_bytes [] bytes e = absurd cc
field_bytes (d ∷ ds) bytes e = digits_bytes (d ∷ ds) bytes (is_text (codes "-") (d ∷ ds)) e

pub key_is_bytes : (field key : List ℕ) → key_of field ≡ Some key → IsBytes key
key_is_bytes field key e = by (bytes_of field) refl e
  where
    kept : (bytes : List ℕ) (b : Bool) → (if b then Some bytes else None) ≡ Some key → IsBytes bytes → IsBytes key
    kept bytes true h all = let same : bytes ≡ key = cc in subst IsBytes same all
    kept bytes false h all = absurd cc

    by : (o : Option (List ℕ)) → bytes_of field ≡ o → key_in o ≡ Some key → IsBytes key
    by None is h = absurd cc
    by (Some bytes) is h =
        kept bytes (nat_le 1 (length bytes) && nat_le (length bytes) MAX_KEY_BYTES) h (field_bytes field bytes is)

-- ---- events

submit_bytes : (c : Configuration) (client op : List ℕ) (e : Event) → submit_event c client op ≡ Ok e → OpIsBytes e
submit_bytes c client op e h =
    let a = then_ok (keeps_rule WrongField (nat_le (length op) max_op_text)) _ e h in
    let b = then_ok (or_rule WrongHex (bytes_of op)) _ e a.2 in
    let d = then_ok (or_rule WrongActor (client_number (actor_of c client))) _ e b.2 in
    let is : Submit d.0 b.0 ≡ e = (let g = d.2 in cc) in
    subst OpIsBytes is (field_bytes op b.0 (value_ok WrongHex (bytes_of op) b.0 b.1))

submit_of_bytes : (c : Configuration) (rest : List (List ℕ)) (e : Event) → submit_of c rest ≡ Ok e → OpIsBytes e
submit_of_bytes c rest e h =
    let a = then_ok (two_fields rest) (λ p. submit_event c p.0 p.1) e h in
    submit_bytes c a.0.0 a.0.1 e a.2

deliver_of_bytes : (c : Configuration) (rest : List (List ℕ)) (e : Event) → deliver_of c rest ≡ Ok e → OpIsBytes e
deliver_of_bytes c rest e h =
    let a = then_ok (two_fields rest) (λ p. deliver_event c p.0 p.1) e h in
    let b = then_ok (or_rule WrongField (number_of a.0.0)) _ e a.2 in
    let d = then_ok (or_rule WrongActor (actor_of c a.0.1)) _ e b.2 in
    let is : Deliver b.0 d.0 ≡ e = (let g = d.2 in cc) in
    subst OpIsBytes is tt

crash_of_bytes : (c : Configuration) (rest : List (List ℕ)) (e : Event) → crash_of c rest ≡ Ok e → OpIsBytes e
crash_of_bytes c rest e h =
    let a = then_ok (one_field rest) _ e h in
    let b = then_ok (or_rule WrongActor (actor_of c a.0)) _ e a.2 in
    let is : Crash b.0 ≡ e = (let g = b.2 in cc) in
    subst OpIsBytes is tt

tick_of_bytes : (c : Configuration) (rest : List (List ℕ)) (e : Event) → tick_of c rest ≡ Ok e → OpIsBytes e
tick_of_bytes c rest e h =
    let a = then_ok (two_fields rest) (λ p. tick_event c p.0 p.1) e h in
    let b = then_ok (or_rule WrongActor (actor_of c a.0.0)) _ e a.2 in
    let d = then_ok (or_rule WrongActor (tick_named a.0.1)) _ e b.2 in
    let g = then_ok (keeps_rule WrongActor (takes_tick b.0 d.0)) _ e d.2 in
    let is : Tick b.0 d.0 ≡ e = (let g = g.2 in cc) in
    subst OpIsBytes is tt

install_of_bytes : (c : Configuration) (rest : List (List ℕ)) (e : Event) → install_of c rest ≡ Ok e → OpIsBytes e
install_of_bytes c rest e h =
    let a = then_ok (one_or_two_fields rest) (λ p. install_event c p.0 p.1) e h in
    let b = then_ok (or_rule WrongActor (sequencer_number (actor_of c a.0.0))) _ e a.2 in
    let d = then_ok (or_rule WrongActor (ordered c a.0.1)) _ e b.2 in
    let is : Install d.0 b.0 ≡ e = (let g = d.2 in cc) in
    subst OpIsBytes is tt

junk_of_bytes : (c : Configuration) (rest : List (List ℕ)) (e : Event) → junk_of c rest ≡ Ok e → OpIsBytes e
junk_of_bytes c rest e h =
    let a = then_ok (two_fields rest) (λ p. junk_event c p.0 p.1) e h in
    let b = then_ok (keeps_rule WrongField (nat_le (length a.0.1) max_junk_text)) _ e a.2 in
    let d = then_ok (or_rule WrongHex (bytes_of a.0.1)) _ e b.2 in
    let g = then_ok (or_rule WrongActor (actor_of c a.0.0)) _ e d.2 in
    let is : Junk g.0 d.0 ≡ e = (let h = g.2 in cc) in
    subst OpIsBytes is tt

read_bytes : (c : Configuration) (client observer text : List ℕ) (e : Event) → read_event c client observer text ≡ Ok e → OpIsBytes e
read_bytes c client observer text e h =
    let a = then_ok (keeps_rule WrongField (nat_le (length text) max_key_text)) _ e h in
    let b = then_ok (keeps_rule WrongField (not (is_text (codes "-") text))) _ e a.2 in
    let d = then_ok (or_rule WrongHex (key_of text)) _ e b.2 in
    let g = then_ok (or_rule WrongActor (client_number (actor_of c client))) _ e d.2 in
    let k = then_ok (or_rule WrongActor (observer_number (actor_of c observer))) _ e g.2 in
    let is : Read g.0 k.0 d.0 ≡ e = (let h = k.2 in cc) in
    subst OpIsBytes is (key_is_bytes text d.0 (value_ok WrongHex (key_of text) d.0 d.1))

read_of_bytes : (c : Configuration) (rest : List (List ℕ)) (e : Event) → read_of c rest ≡ Ok e → OpIsBytes e
read_of_bytes c rest e h =
    let a = then_ok (three_fields rest) (λ p. read_event c p.0 p.1 p.2) e h in
    read_bytes c a.0.0 a.0.1 a.0.2 e a.2

-- the tests of the words in their order
by_word : (c : Configuration) (rest : List (List ℕ)) (e : Event) (s d t i k j r : Bool)
    → (if s then submit_of c rest else if d then deliver_of c rest else if t then tick_of c rest else if i then install_of c rest
    else if k then crash_of c rest else if j then junk_of c rest else if r then read_of c rest else Err WrongWord) ≡ Ok e → OpIsBytes e
by_word c rest e true d t i k j r h = submit_of_bytes c rest e h
by_word c rest e false true t i k j r h = deliver_of_bytes c rest e h
by_word c rest e false false true i k j r h = tick_of_bytes c rest e h
by_word c rest e false false false true k j r h = install_of_bytes c rest e h
by_word c rest e false false false false true j r h = crash_of_bytes c rest e h
by_word c rest e false false false false false true r h = junk_of_bytes c rest e h
by_word c rest e false false false false false false true h = read_of_bytes c rest e h
by_word c rest e false false false false false false false h = absurd cc

of_fields_bytes : (c : Configuration) (xs : List (List ℕ)) (e : Event) → event_of_fields c xs ≡ Ok e → OpIsBytes e
of_fields_bytes c [] e h = absurd cc
of_fields_bytes c (word ∷ rest) e h =
    by_word c rest e (is_text (codes "submit") word) (is_text (codes "deliver") word) (is_text (codes "tick") word)
    (is_text (codes "install") word) (is_text (codes "crash") word) (is_text (codes "junk") word) (is_text (codes "read") word) h

limited : (c : Configuration) (line : List ℕ) (e : Event) (b : Bool)
    → (if b then Err TooManyLines else plain_line line >>= λ text. event_of_fields c (fields text)) ≡ Ok e → OpIsBytes e
limited c line e true h = absurd cc
limited c line e false h = let a =
    then_ok (plain_line line) (λ text. event_of_fields c (fields text)) e h in of_fields_bytes c (fields a.0) e a.2

pub op_is_bytes : (c : Configuration) (before : ℕ) (line : List ℕ) (e : Event) → event_of c before line ≡ Ok e → OpIsBytes e
unfolding event_of
op_is_bytes c before line e h = limited c line e (nat_le MAX_LINES before) h

-- ---- schedules

-- each event is in its ranges, and its op or its key is bytes
abbrev pub AreRead : List Event → Type 0
AreRead [] = ⊤
AreRead (e ∷ es) = (EventFits e × OpIsBytes e) × AreRead es

pub read_fit : (es : List Event) → AreRead es → EventsFit es
read_fit [] h = tt
read_fit (e ∷ es) h = (h.0.0, read_fit es h.1)

module _ {S : Type 0} (m : Meaning S) (c : Configuration) where
  step_read : (k : ℕ) (line : List ℕ) (e : Event) (f : WorldState → Schedule) → event_of c k line ≡ Ok e
      → ((v : WorldState) → AreRead (f v).events) → (r : Result Happened Refusal) → AreRead (stepped k e r f).events
  step_read k line e f is rest (Err refusal) = tt
  step_read k line e f is rest (Ok h) = ((events_fit c k line e is, op_is_bytes c k line e is), rest h.world)

  line_read : (w : WorldState) (k : ℕ) (line : List ℕ) (f : WorldState → Schedule) → ((v : WorldState) → AreRead (f v).events)
      → (r : Result Event Rule) → event_of c k line ≡ r → AreRead (scheduled m w k r f).events
  line_read w k line f rest (Err rule) is = tt
  line_read w k line f rest (Ok e) is = step_read k line e f is rest (step m w e)

  pub schedule_read : (w : WorldState) (k : ℕ) (lines : List (List ℕ)) → AreRead (schedule_from m c w k lines).events
  schedule_read w k [] = tt
  schedule_read w k (line ∷ lines) =
      line_read w k line (λ v. schedule_from m c v (k + 1) lines) (λ v. schedule_read v (k + 1) lines) (event_of c k line) refl
