-- What is read from lines is in its ranges.
use Rattle.std.proofs.Common.{◌≡◌, ℕ, ◌≤◌, Bool, true, false, Option, Some, None, refl, ap, subst, arith, length, List, [], ◌∷◌}
use Rattle.std.specs.Prelude.{codes, nat_le, not, Ok, Err, if◌then◌else◌}
use Rattle.std.proofs.lemmas.Bool.{leb-true}
use Rattle.nop_types.specs.declared.limits.TheConstants.{MAX_LINES, MAX_DATAGRAM_BYTES}
use Rattle.nop_types.specs.declared.output.Actor.{Actor}
use Rattle.nop_types.specs.Configuration.{Configuration, is_configuration}
use Rattle.nop_types.specs.Headers.{gives, is_header}
use Rattle.nop_types.specs.declared.header.Header.{Header}
use Rattle.schedule_text.specs.declared.event.Event.{Event}
use Rattle.schedule_text.specs.declared.event.Event.TheVariants.{Submit, Deliver, Tick, Install, Crash, Junk}
use Rattle.schedule_text.specs.declared.event.Event.TheVariants as events
use Rattle.line_fields.specs.Fields.{is_text, number_of, actor_of, client_number, sequencer_number, observer_number, bytes_of, key_of, fields}
use Rattle.schedule_text.specs.Fits.{EventFits}
use Rattle.schedule_text.specs.Ticks.{tick_named, takes_tick}
use Rattle.schedule_text.specs.declared.rule.Rule.{Rule}
use Rattle.schedule_text.specs.declared.rule.Rule.TheVariants.{WrongWord, WrongField, WrongHex, WrongActor, TooManyLines}
use Rattle.schedule_text.specs.Rules.{Read, ◌>>=◌, or_rule, keeps_rule, max_op_text, max_key_text, max_junk_text, one_field, one_or_two_fields}
use Rattle.schedule_text.specs.Rules.{two_fields, three_fields, submit_event, ordered, install_event, read_event, read_of}
use Rattle.schedule_text.specs.Rules.{submit_of, deliver_event, deliver_of, tick_event, tick_of, install_of, crash_of, junk_event, junk_of}
use Rattle.schedule_text.specs.Rules.{event_of_fields}
use Rattle.schedule_text.specs.Rules.{header_with, count_of, are_named, header_by, header_rest, header_of_fields, plain_line, header_of}
use Rattle.schedule_text.specs.Rules.{event_of}
use Rattle.line_fields.proofs.HexLengths.{bytes_short, key_within}

-- a step that gave a value, and what came of it
pub then_ok : {A B : Type 0} (r : Read A) (f : A → Read B) (y : B) → (r >>= f) ≡ Ok y → (x : A) × (r ≡ Ok x) × (f x ≡ Ok y)
then_ok (Ok x) f y e = (x, refl, e)
then_ok (Err rule) f y e = absurd cc

pub value_ok : {A : Type 0} (rule : Rule) (o : Option A) (x : A) → or_rule rule o ≡ Ok x → o ≡ Some x
value_ok rule None x e = absurd cc
value_ok rule (Some y) x e = let same : y ≡ x = cc in ap Some same

test_ok : (rule : Rule) (b c : Bool) → keeps_rule rule b ≡ Ok c → b ≡ true
test_ok rule true c e = refl
test_ok rule false c e = absurd cc

-- ---- events

submit_fits : (c : Configuration) (client op : List ℕ) (e : Event) → submit_event c client op ≡ Ok e → EventFits e
submit_fits c client op e h =
    let a = then_ok (keeps_rule WrongField (nat_le (length op) max_op_text)) _ e h in
    let b = then_ok (or_rule WrongHex (bytes_of op)) _ e a.2 in
    let d = then_ok (or_rule WrongActor (client_number (actor_of c client))) _ e b.2 in
    let low = leb-true (length op) max_op_text (test_ok WrongField (nat_le (length op) max_op_text) a.0 a.1) in
    let small = bytes_short op b.0 (value_ok WrongHex (bytes_of op) b.0 b.1) in
    let is : Submit d.0 b.0 ≡ e = (let g = d.2 in cc) in
    subst EventFits is (omega (arith, low, small))

deliver_fits : (c : Configuration) (index actor : List ℕ) (e : Event) → deliver_event c index actor ≡ Ok e → EventFits e
deliver_fits c index actor e h =
    let a = then_ok (or_rule WrongField (number_of index)) _ e h in
    let b = then_ok (or_rule WrongActor (actor_of c actor)) _ e a.2 in
    let is : Deliver a.0 b.0 ≡ e = (let g = b.2 in cc) in
    subst EventFits is tt

submit_of_fits : (c : Configuration) (rest : List (List ℕ)) (e : Event) → submit_of c rest ≡ Ok e → EventFits e
submit_of_fits c rest e h =
    let a = then_ok (two_fields rest) (λ p. submit_event c p.0 p.1) e h in
    submit_fits c a.0.0 a.0.1 e a.2

deliver_of_fits : (c : Configuration) (rest : List (List ℕ)) (e : Event) → deliver_of c rest ≡ Ok e → EventFits e
deliver_of_fits c rest e h =
    let a = then_ok (two_fields rest) (λ p. deliver_event c p.0 p.1) e h in
    deliver_fits c a.0.0 a.0.1 e a.2

crash_of_fits : (c : Configuration) (rest : List (List ℕ)) (e : Event) → crash_of c rest ≡ Ok e → EventFits e
crash_of_fits c rest e h =
    let a = then_ok (one_field rest) _ e h in
    let b = then_ok (or_rule WrongActor (actor_of c a.0)) _ e a.2 in
    let is : Crash b.0 ≡ e = (let g = b.2 in cc) in
    subst EventFits is tt

tick_of_fits : (c : Configuration) (rest : List (List ℕ)) (e : Event) → tick_of c rest ≡ Ok e → EventFits e
tick_of_fits c rest e h =
    let a = then_ok (two_fields rest) (λ p. tick_event c p.0 p.1) e h in
    let b = then_ok (or_rule WrongActor (actor_of c a.0.0)) _ e a.2 in
    let d = then_ok (or_rule WrongActor (tick_named a.0.1)) _ e b.2 in
    let g = then_ok (keeps_rule WrongActor (takes_tick b.0 d.0)) _ e d.2 in
    let is : Tick b.0 d.0 ≡ e = (let g = g.2 in cc) in
    subst EventFits is tt

install_of_fits : (c : Configuration) (rest : List (List ℕ)) (e : Event) → install_of c rest ≡ Ok e → EventFits e
install_of_fits c rest e h =
    let a = then_ok (one_or_two_fields rest) (λ p. install_event c p.0 p.1) e h in
    let b = then_ok (or_rule WrongActor (sequencer_number (actor_of c a.0.0))) _ e a.2 in
    let d = then_ok (or_rule WrongActor (ordered c a.0.1)) _ e b.2 in
    let is : Install d.0 b.0 ≡ e = (let g = d.2 in cc) in
    subst EventFits is tt

junk_of_fits : (c : Configuration) (rest : List (List ℕ)) (e : Event) → junk_of c rest ≡ Ok e → EventFits e
junk_of_fits c rest e h =
    let a = then_ok (two_fields rest) (λ p. junk_event c p.0 p.1) e h in
    let b = then_ok (keeps_rule WrongField (nat_le (length a.0.1) max_junk_text)) _ e a.2 in
    let d = then_ok (or_rule WrongHex (bytes_of a.0.1)) _ e b.2 in
    let g = then_ok (or_rule WrongActor (actor_of c a.0.0)) _ e d.2 in
    let is : Junk g.0 d.0 ≡ e = (let h = g.2 in cc) in
    subst EventFits is tt

read_fits : (c : Configuration) (client observer text : List ℕ) (e : Event) → read_event c client observer text ≡ Ok e → EventFits e
read_fits c client observer text e h =
    let a = then_ok (keeps_rule WrongField (nat_le (length text) max_key_text)) _ e h in
    let b = then_ok (keeps_rule WrongField (not (is_text (codes "-") text))) _ e a.2 in
    let d = then_ok (or_rule WrongHex (key_of text)) _ e b.2 in
    let g = then_ok (or_rule WrongActor (client_number (actor_of c client))) _ e d.2 in
    let k = then_ok (or_rule WrongActor (observer_number (actor_of c observer))) _ e g.2 in
    let is : events.Read g.0 k.0 d.0 ≡ e = (let h = k.2 in cc) in
    subst EventFits is (key_within text d.0 (value_ok WrongHex (key_of text) d.0 d.1))

read_of_fits : (c : Configuration) (rest : List (List ℕ)) (e : Event) → read_of c rest ≡ Ok e → EventFits e
read_of_fits c rest e h =
    let a = then_ok (three_fields rest) (λ p. read_event c p.0 p.1 p.2) e h in
    read_fits c a.0.0 a.0.1 a.0.2 e a.2

-- the tests of the words in their order
by_word : (c : Configuration) (rest : List (List ℕ)) (e : Event) (s d t i k j r : Bool)
    → (if s then submit_of c rest else if d then deliver_of c rest else if t then tick_of c rest else if i then install_of c rest
    else if k then crash_of c rest else if j then junk_of c rest else if r then read_of c rest else Err WrongWord) ≡ Ok e → EventFits e
by_word c rest e true d t i k j r h = submit_of_fits c rest e h
by_word c rest e false true t i k j r h = deliver_of_fits c rest e h
by_word c rest e false false true i k j r h = tick_of_fits c rest e h
by_word c rest e false false false true k j r h = install_of_fits c rest e h
by_word c rest e false false false false true j r h = crash_of_fits c rest e h
by_word c rest e false false false false false true r h = junk_of_fits c rest e h
by_word c rest e false false false false false false true h = read_of_fits c rest e h
by_word c rest e false false false false false false false h = absurd cc

of_fields_fits : (c : Configuration) (xs : List (List ℕ)) (e : Event) → event_of_fields c xs ≡ Ok e → EventFits e
of_fields_fits c [] e h = absurd cc
of_fields_fits c (word ∷ rest) e h =
    by_word c rest e (is_text (codes "submit") word) (is_text (codes "deliver") word) (is_text (codes "tick") word)
    (is_text (codes "install") word) (is_text (codes "crash") word) (is_text (codes "junk") word) (is_text (codes "read") word) h

limited : (c : Configuration) (line : List ℕ) (e : Event) (b : Bool)
    → (if b then Err TooManyLines else plain_line line >>= λ text. event_of_fields c (fields text)) ≡ Ok e → EventFits e
limited c line e true h = absurd cc
limited c line e false h = let a =
    then_ok (plain_line line) (λ text. event_of_fields c (fields text)) e h in of_fields_fits c (fields a.0) e a.2

pub events_fit : (c : Configuration) (before : ℕ) (line : List ℕ) (e : Event) → event_of c before line ≡ Ok e → EventFits e
unfolding event_of
events_fit c before line e h = limited c line e (nat_le MAX_LINES before) h

-- ---- junk

junk_short : (c : Configuration) (actor text : List ℕ) (to : Actor) (bytes : List ℕ) → junk_event c actor text ≡ Ok (Junk to bytes)
    → length bytes ≤ MAX_DATAGRAM_BYTES
junk_short c actor text to bytes h =
    let a = then_ok (keeps_rule WrongField (nat_le (length text) max_junk_text)) _ _ h in
    let b = then_ok (or_rule WrongHex (bytes_of text)) _ _ a.2 in
    let d = then_ok (or_rule WrongActor (actor_of c actor)) _ _ b.2 in
    let low = leb-true (length text) max_junk_text (test_ok WrongField (nat_le (length text) max_junk_text) a.0 a.1) in
    let small = bytes_short text b.0 (value_ok WrongHex (bytes_of text) b.0 b.1) in
    let same : b.0 ≡ bytes = (let g = d.2 in cc) in
    subst (λ (xs : List ℕ). length xs ≤ MAX_DATAGRAM_BYTES) same (omega (arith, low, small))

pub junk_fits : (c : Configuration) (rest : List (List ℕ)) (to : Actor) (bytes : List ℕ) → junk_of c rest ≡ Ok (Junk to bytes)
    → length bytes ≤ MAX_DATAGRAM_BYTES
junk_fits c rest to bytes h =
    let a = then_ok (two_fields rest) (λ p. junk_event c p.0 p.1) _ h in
    junk_short c a.0.0 a.0.1 to bytes a.2

-- ---- headers

made_fits : (made h : Header) (b : Bool) → gives made.form made.config ≡ true → is_configuration made.config ≡ b
    → (if◌then◌else◌ {A = Read Header} b (Ok made) (Err WrongField)) ≡ Ok h → is_header h ≡ true
made_fits made h true gives is e = let same : made ≡ h = cc in subst (λ (x : Header). is_header x ≡ true) same (rw (gives, is) refl)
made_fits made h false gives is e = absurd cc

-- a header that can have these counts, whichever they are
header_fits : (form : ℕ) (n s k j o : Option ℕ) (h : Header)
    → ((n s k i m : ℕ) → j ≡ Some i → o ≡ Some m
    → gives form (record { replicas = n; sequencers = s; clients = k; controllers = i; observers = m }) ≡ true)
    → header_with form n s k j o ≡ Ok h → is_header h ≡ true
header_fits form (Some n) (Some s) (Some k) (Some j) (Some o) h can e =
    let config : Configuration = record { replicas = n; sequencers = s; clients = k; controllers = j; observers = o } in
    made_fits (record { form = form; config = config }) h (is_configuration config) (can n s k j o refl refl) refl e
header_fits form None s k j o h can e = absurd cc
header_fits form (Some n) None k j o h can e = absurd cc
header_fits form (Some n) (Some s) None j o h can e = absurd cc
header_fits form (Some n) (Some s) (Some k) None o h can e = absurd cc
header_fits form (Some n) (Some s) (Some k) (Some j) None h can e = absurd cc

first_fits : (n s k : Option ℕ) (h : Header) (b : Bool)
    → (if b then header_with 1 n s k (Some 1) (Some 0) else Err WrongField) ≡ Ok h → is_header h ≡ true
first_fits n s k h true e =
    header_fits 1 n s k (Some 1) (Some 0) h
    (λ n s k i m is less. let one : 1 ≡ i = cc in let no : 0 ≡ m = cc in rw (← one, ← no) refl) e
first_fits n s k h false e = absurd cc

second_fits : (n s k j : Option ℕ) (h : Header) (b : Bool)
    → (if b then header_with 2 n s k j (Some 0) else Err WrongField) ≡ Ok h → is_header h ≡ true
second_fits n s k j h true e =
    header_fits 2 n s k j (Some 0) h (λ n s k i m is less. let no : 0 ≡ m = cc in rw (← no) refl) e
second_fits n s k j h false e = absurd cc

third_fits : (n s k j o : Option ℕ) (h : Header) (b : Bool)
    → (if b then header_with 3 n s k j o else Err WrongField) ≡ Ok h → is_header h ≡ true
third_fits n s k j o h true e = header_fits 3 n s k j o h (λ n s k i m is more. refl) e
third_fits n s k j o h false e = absurd cc

form_fits : (form : List ℕ) (named : Bool) (n s k : Option ℕ) (rest : List (List ℕ)) (h : Header)
    → header_by form named n s k rest ≡ Ok h → is_header h ≡ true
form_fits form named n s k [] h e = first_fits n s k h _ e
form_fits form named n s k (x1 ∷ []) h e = absurd cc
form_fits form named n s k (controllers ∷ j ∷ []) h e = second_fits n s k (count_of j) h _ e
form_fits form named n s k (x1 ∷ x2 ∷ x3 ∷ []) h e = absurd cc
form_fits form named n s k (controllers ∷ j ∷ observers ∷ o ∷ []) h e = third_fits n s k (count_of j) (count_of o) h _ e
form_fits form named n s k (x1 ∷ x2 ∷ x3 ∷ x4 ∷ x5 ∷ xs) h e = absurd cc

rest_fits : (xs : List (List ℕ)) (h : Header) → header_rest xs ≡ Ok h → is_header h ≡ true
rest_fits [] h e = absurd cc
rest_fits (x1 ∷ []) h e = absurd cc
rest_fits (x1 ∷ x2 ∷ []) h e = absurd cc
rest_fits (x1 ∷ x2 ∷ x3 ∷ []) h e = absurd cc
rest_fits (x1 ∷ x2 ∷ x3 ∷ x4 ∷ []) h e = absurd cc
rest_fits (x1 ∷ x2 ∷ x3 ∷ x4 ∷ x5 ∷ []) h e = absurd cc
rest_fits (x1 ∷ x2 ∷ x3 ∷ x4 ∷ x5 ∷ x6 ∷ []) h e = absurd cc
rest_fits (form ∷ replicas ∷ n ∷ sequencers ∷ s ∷ clients ∷ k ∷ rest) h e =
    form_fits form (are_named replicas sequencers clients) (count_of n) (count_of s) (count_of k) rest h e

word_fits : (rest : List (List ℕ)) (h : Header) (b : Bool) → (if b then header_rest rest else Err WrongWord) ≡ Ok h
    → is_header h ≡ true
word_fits rest h true e = rest_fits rest h e
word_fits rest h false e = absurd cc

header_fields_fit : (xs : List (List ℕ)) (h : Header) → header_of_fields xs ≡ Ok h → is_header h ≡ true
header_fields_fit [] h e = absurd cc
header_fields_fit (word ∷ rest) h e = word_fits rest h (is_text (codes "nopaxos") word) e

pub headers_fit : (line : List ℕ) (h : Header) → header_of line ≡ Ok h → is_header h ≡ true
unfolding header_of
headers_fit line h e = let a =
    then_ok (plain_line line) (λ text. header_of_fields (fields text)) h e in header_fields_fit (fields a.0) h a.2
