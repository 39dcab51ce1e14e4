-- A line that gives an event has plain bytes alone.
use Rattle.std.proofs.Common.{◌≡◌, ◌≤◌, ◌+◌, ◌-◌, ◌*◌, ℕ, Bool, true, false, Option, Some, None, refl, sym, ap, subst, ◌∙◌, arith}
use Rattle.std.proofs.Common.{take, drop, List, [], ◌∷◌, ◌++◌, length, append_assoc, append-nil, eqb}
use Rattle.std.specs.Prelude.{codes, nat_le, nat_lt, nat_eq, ◌==◌, ◌&&◌, ◌^◌, Result, Ok, Err, if◌then◌else◌, is_some, slice_index_or}
use Rattle.std.specs.Prelude.{IfSome, not, ⊤}
use Rattle.std.specs.Cmp.Lexicographic.{pointwise}
use Rattle.std.specs.List.{list_all}
use Rattle.std.proofs.lemmas.Bool.{leb-true, le-leb, eqb-true, and_parts}
use Rattle.std.proofs.lemmas.List.{take-append-drop}
use Rattle.std.proofs.lemmas.List.Folds.{list_all-append}
use Rattle.std.proofs.lemmas.List.Sums.{list_all-from_AllPass}
use Rattle.hex.specs.Hex.{decode_of, is_hex_digit}
use Rattle.hex.specs.declared.error.FromHexError.{FromHexError}
use Rattle.hex.proofs.HexLemmas.{decode_of-ok}
use Rattle.nop_types.specs.Configuration.{Configuration}
use Rattle.nop_types.specs.declared.input.Tick.{Tick}
use Rattle.nop_types.specs.declared.input.Tick.TheVariants.{Suspect, Watch, Resend, Sync, Retry, Probe}
use Rattle.nop_types.specs.declared.output.Actor.{Actor}
use Rattle.nop_types.specs.declared.output.Actor.TheVariants.{Replica, Sequencer, Client, Controller, Observer}
use Rattle.lemmas.proofs.Bytes.{pointwise-true}
use Rattle.line_fields.specs.Fields.{fields, fields_on, is_text, digit_on, number_on, number_of, below, number_below, numbered}
use Rattle.line_fields.specs.Fields.{lettered, by_letter, from_one, by_number, actor_of, client_number, sequencer_number}
use Rattle.line_fields.specs.Fields.{controller_number, observer_number, as_option, bytes_of, key_of}
use Rattle.line_fields.proofs.HexLengths.{key_bytes}
use Rattle.schedule_text.specs.declared.event.Event.{Event}
use Rattle.schedule_text.specs.declared.rule.Rule.TheVariants.{WrongWord, WrongField, WrongHex, WrongActor}
use Rattle.schedule_text.specs.Ticks.{tick_named}
use Rattle.schedule_text.specs.Rules.{is_plain, or_rule, keeps_rule, max_op_text, max_key_text, max_junk_text, one_field, one_or_two_fields}
use Rattle.schedule_text.specs.Rules.{two_fields, three_fields, read_of, read_event}
use Rattle.schedule_text.specs.Rules.{submit_of, deliver_of, tick_of, install_of, crash_of, junk_of, event_of_fields}
use Rattle.schedule_text.specs.Rules.{submit_event, deliver_event, tick_event, ordered, install_event, junk_event}
use Rattle.schedule_text.proofs.Fitting.{then_ok, value_ok}

abbrev pub IsPlain : List ℕ → Type 0
IsPlain xs = list_all is_plain xs ≡ true

plain_append : (xs ys : List ℕ) → IsPlain xs → IsPlain ys → IsPlain (xs ++ ys)
plain_append xs ys p q = list_all-append is_plain xs ys ∙ rw (p, q) refl

plain_first : (b : ℕ) (bs : List ℕ) → is_plain b ≡ true → IsPlain bs → IsPlain (b ∷ bs)
plain_first b bs p q = rw (p, q) refl

between : (b low high : ℕ) → 32 ≤ low → high ≤ 126 → low ≤ b → b ≤ high → is_plain b ≡ true
between b low high from to l h = rw (le-leb 32 b (omega (arith, from, l)), le-leb b 126 (omega (arith, to, h))) refl

-- ---- words

same_first : (x y : ℕ) (xs ys : List ℕ) (b : Bool) → eqb x y ≡ b → (pointwise nat_eq xs ys ≡ true → xs ≡ ys)
    → (b && pointwise nat_eq xs ys) ≡ true → x ∷ xs ≡ y ∷ ys
same_first x y xs ys true is others e = rw (eqb-true x y is, others e) refl
same_first x y xs ys false is others e = absurd cc

word_plain : (text field : List ℕ) → IsPlain text → is_text text field ≡ true → IsPlain field
word_plain text field p e = rw (pointwise-true field text e) p

-- ---- numbers

digit_plain : (n d m : ℕ) → digit_on n d ≡ Some m → is_plain d ≡ true
digit_plain n d m h = by_tests (nat_le 48 d) (nat_le d 57) (nat_lt (n * 10 + (d - 48)) (2 ^ 64)) refl refl h
  where
    by_tests : (a b c : Bool) → nat_le 48 d ≡ a → nat_le d 57 ≡ b
        → (if a && (b && c) then Some (n * 10 + (d - 48)) else None) ≡ Some m → is_plain d ≡ true
    by_tests true true c p q e = between d 48 57 (omega arith) (omega arith) (leb-true 48 d p) (leb-true d 57 q)
    by_tests true false c p q e = absurd cc
    by_tests false b c p q e = absurd cc

none_on : (ds : List ℕ) (m : ℕ) → number_on None ds ≡ Some m → ⊥
none_on [] m e = cc
none_on (d ∷ ds) m e = cc

digits_from : (d : ℕ) (ds : List ℕ) (m : ℕ) (o : Option ℕ) → ((x : ℕ) → o ≡ Some x → is_plain d ≡ true)
    → ((x : ℕ) → number_on (Some x) ds ≡ Some m → IsPlain ds) → number_on o ds ≡ Some m → IsPlain (d ∷ ds)
digits_from d ds m None first others e = absurd (none_on ds m e)
digits_from d ds m (Some x) first others e = plain_first d ds (first x refl) (others x e)

digits_plain : (n : ℕ) (ds : List ℕ) (m : ℕ) → number_on (Some n) ds ≡ Some m → IsPlain ds
digits_plain n [] m e = refl
digits_plain n (d ∷ ds) m e =
    digits_from d ds m (digit_on n d) (λ x is. digit_plain n d x is) (λ x is. digits_plain x ds m is) e

unless_zero : (b : Bool) (o : Option ℕ) (m : ℕ) → (if b then None else o) ≡ Some m → o ≡ Some m
unless_zero true o m e = absurd cc
unless_zero false o m e = e

number_plain : (field : List ℕ) (m : ℕ) → number_of field ≡ Some m → IsPlain field
unfolding number_of
number_plain [] m e = absurd cc
number_plain (d ∷ []) m e = digits_plain 0 (d ∷ []) m e
number_plain (d ∷ x ∷ ds) m e =
    digits_plain 0 (d ∷ x ∷ ds) m (unless_zero (d == 48) (number_on (Some 0) (d ∷ x ∷ ds)) m e)

-- ---- actors

was_below : (limit : ℕ) (o : Option ℕ) (actor : ℕ → Actor) (a : Actor) → numbered actor (below limit o) ≡ Some a
    → (m : ℕ) × (o ≡ Some m)
was_below limit None actor a e = absurd cc
was_below limit (Some m) actor a e = (m, refl)

was_some : (limit : ℕ) (o : Option ℕ) (n : ℕ) → below limit o ≡ Some n → (m : ℕ) × (o ≡ Some m)
was_some limit None n e = absurd cc
was_some limit (Some m) n e = (m, refl)

was_from_one : (o : Option ℕ) (a : Actor) → numbered Controller (from_one o) ≡ Some a → (n : ℕ) × (o ≡ Some n)
was_from_one None a e = absurd cc
was_from_one (Some n) a e = (n, refl)

lettered_plain : (c : Configuration) (letter : ℕ) (digits : List ℕ) (a : Actor) → lettered c letter digits ≡ Some a
    → IsPlain (letter ∷ digits)
lettered_plain c letter digits a h = by_tests (letter == 114) (letter == 115) (letter == 99) (letter == 111) refl refl refl refl h
  where
    named : (limit : ℕ) (actor : ℕ → Actor) (l : ℕ) → letter ≡ l → is_plain l ≡ true
        → numbered actor (number_below limit digits) ≡ Some a → IsPlain (letter ∷ digits)
    named limit actor l is plain e =
        let m = was_below limit (number_of digits) actor a e in
        plain_first letter digits (rw is plain) (number_plain digits m.0 m.1)

    by_tests : (r s k o : Bool) → (letter == 114) ≡ r → (letter == 115) ≡ s → (letter == 99) ≡ k → (letter == 111) ≡ o
        → (if r then numbered Replica (number_below c.replicas digits)
        else if s then numbered Sequencer (number_below c.sequencers digits)
        else if k then numbered Client (number_below c.clients digits)
        else if o then numbered Observer (number_below c.observers digits) else None) ≡ Some a → IsPlain (letter ∷ digits)
    by_tests true s k o p q t u e = named c.replicas Replica 114 (eqb-true letter 114 p) refl e
    by_tests false true k o p q t u e = named c.sequencers Sequencer 115 (eqb-true letter 115 q) refl e
    by_tests false false true o p q t u e = named c.clients Client 99 (eqb-true letter 99 t) refl e
    by_tests false false false true p q t u e = named c.observers Observer 111 (eqb-true letter 111 u) refl e
    by_tests false false false false p q t u e = absurd cc

actor_plain : (c : Configuration) (field : List ℕ) (a : Actor) → actor_of c field ≡ Some a → IsPlain field
unfolding actor_of
actor_plain c field a h = by_word (is_text (codes "ctl") field) (is_text (codes "ctl") (take 3 field)) refl refl h
  where
    by_letters : (f : List ℕ) → by_letter c f ≡ Some a → IsPlain f
    by_letters [] e = absurd cc
    by_letters (letter ∷ digits) e = lettered_plain c letter digits a e

    by_digits : by_number c (drop 3 field) ≡ Some a → IsPlain (drop 3 field)
    by_digits e =
        let m = was_from_one (number_below c.controllers (drop 3 field)) a e in
        let n = was_some c.controllers (number_of (drop 3 field)) m.0 m.1 in
        number_plain (drop 3 field) n.0 n.1

    by_word : (b t : Bool) → is_text (codes "ctl") field ≡ b → is_text (codes "ctl") (take 3 field) ≡ t
        → (if b then Some (Controller 0) else if t then by_number c (drop 3 field) else by_letter c field) ≡ Some a → IsPlain field
    by_word true t is begins e = word_plain (codes "ctl") field refl is
    by_word false true is begins e =
        rw (← take-append-drop 3 field) (plain_append (take 3 field) (drop 3 field) (word_plain (codes "ctl") (take 3 field) refl begins)
        (by_digits e))
    by_word false false is begins e = by_letters field e

-- ---- bytes in hexadecimal

hex_plain : (d : ℕ) → is_hex_digit d ≡ true → is_plain d ≡ true
hex_plain d h = by_tests (nat_le 65 d && nat_le d 70) (nat_le 97 d && nat_le d 102) (nat_le 48 d && nat_le d 57) refl refl refl h
  where
    within : (low high : ℕ) → 32 ≤ low → high ≤ 126 → (nat_le low d && nat_le d high) ≡ true → is_plain d ≡ true
    within low high from to e =
        let p = and_parts (nat_le low d) (nat_le d high) e in
        between d low high from to (leb-true low d p.0) (leb-true d high p.1)

    by_tests : (a b e : Bool) → (nat_le 65 d && nat_le d 70) ≡ a → (nat_le 97 d && nat_le d 102) ≡ b
        → (nat_le 48 d && nat_le d 57) ≡ e
        → is_some (if a then Some (d - 55) else if b then Some (d - 87) else if e then Some (d - 48) else None) ≡ true
        → is_plain d ≡ true
    by_tests true b e p q r is = within 65 70 (omega arith) (omega arith) p
    by_tests false true e p q r is = within 97 102 (omega arith) (omega arith) q
    by_tests false false true p q r is = within 48 57 (omega arith) (omega arith) r
    by_tests false false false p q r is = absurd cc

bytes_plain : (field bytes : List ℕ) → bytes_of field ≡ Some bytes → IsPlain field
unfolding bytes_of
bytes_plain [] bytes e = refl
bytes_plain (d ∷ ds) bytes e = by_word (is_text (codes "-") (d ∷ ds)) refl e
  where
    decoded : (r : Result (List ℕ) FromHexError) → as_option r ≡ Some bytes → r ≡ Ok bytes
    decoded (Ok xs) f = let same : xs ≡ bytes = cc in ap Ok same
    decoded (Err x) f = absurd cc

    by_word : (b : Bool) → is_text (codes "-") (d ∷ ds) ≡ b → (if b then Some [] else as_option (decode_of (d ∷ ds))) ≡ Some bytes
        → IsPlain (d ∷ ds)
    by_word true is f = word_plain (codes "-") (d ∷ ds) refl is
    by_word false is f =
        let digits = (decode_of-ok (d ∷ ds) bytes (decoded (decode_of (d ∷ ds)) f)).1 in
        list_all-from_AllPass is_plain (d ∷ ds) (λ k z below. hex_plain (slice_index_or (d ∷ ds) k z) (digits k z below))

key_plain : (field key : List ℕ) → key_of field ≡ Some key → IsPlain field
key_plain field key e = let read = key_bytes field key e in bytes_plain field read.0 read.1

-- ---- ticks

tick_plain : (field : List ℕ) (t : Tick) → tick_named field ≡ Some t → IsPlain field
unfolding tick_named
tick_plain field t h =
    by_words (is_text (codes "suspect") field) (is_text (codes "watch") field) (is_text (codes "resend") field)
    (is_text (codes "sync") field) (is_text (codes "retry") field) (is_text (codes "probe") field) refl refl refl refl refl refl h
  where
    by_words : (a b d e f g : Bool) → is_text (codes "suspect") field ≡ a → is_text (codes "watch") field ≡ b
        → is_text (codes "resend") field ≡ d → is_text (codes "sync") field ≡ e → is_text (codes "retry") field ≡ f
        → is_text (codes "probe") field ≡ g
        → (if a then Some Suspect else if b then Some Watch else if d then Some Resend else if e then Some Sync
        else if f then Some Retry else if g then Some Probe else None) ≡ Some t → IsPlain field
    by_words true b d e f g p q r s u v is = word_plain (codes "suspect") field refl p
    by_words false true d e f g p q r s u v is = word_plain (codes "watch") field refl q
    by_words false false true e f g p q r s u v is = word_plain (codes "resend") field refl r
    by_words false false false true f g p q r s u v is = word_plain (codes "sync") field refl s
    by_words false false false false true g p q r s u v is = word_plain (codes "retry") field refl u
    by_words false false false false false true p q r s u v is = word_plain (codes "probe") field refl v
    by_words false false false false false false p q r s u v is = absurd cc

-- ---- fields

abbrev pub AllPlain : List (List ℕ) → Type 0
AllPlain [] = ⊤
AllPlain (f ∷ fs) = IsPlain f × AllPlain fs

cut_plain : (field : List ℕ) (b : ℕ) (bs : List ℕ) (t : Bool) → (b == 32) ≡ t → (AllPlain (fields_on [] bs) → IsPlain bs)
    → (AllPlain (fields_on (field ++ b ∷ []) bs) → IsPlain ((field ++ b ∷ []) ++ bs))
    → AllPlain (if t then field ∷ fields_on [] bs else fields_on (field ++ b ∷ []) bs) → IsPlain (field ++ b ∷ bs)
cut_plain field b bs true is later on h = plain_append field (b ∷ bs) h.0 (plain_first b bs (rw (eqb-true b 32 is) refl) (later h.1))
cut_plain field b bs false is later on h = rw (← append_assoc field (b ∷ []) bs) (on h)

line_plain : (field line : List ℕ) → AllPlain (fields_on field line) → IsPlain (field ++ line)
line_plain field [] h = rw (append-nil field) h.0
line_plain field (b ∷ bs) h =
    cut_plain field b bs (b == 32) refl (line_plain [] bs) (line_plain (field ++ b ∷ []) bs) h

-- ---- events

one_plain : (rest : List (List ℕ)) (x : List ℕ) → one_field rest ≡ Ok x → IsPlain x → AllPlain rest
one_plain [] x e p = absurd cc
one_plain (f ∷ []) x e p = let same : f ≡ x = cc in (rw same p, tt)
one_plain (f ∷ g ∷ fs) x e p = absurd cc

two_plain : (rest : List (List ℕ)) (x : List ℕ × List ℕ) → two_fields rest ≡ Ok x → IsPlain x.0 → IsPlain x.1 → AllPlain rest
two_plain [] x e p q = absurd cc
two_plain (f ∷ []) x e p q = absurd cc
two_plain (f ∷ g ∷ []) x e p q =
    let same : (f, g) ≡ x = cc in
    (rw (ap (λ (y : List ℕ × List ℕ). y.0) same) p, (rw (ap (λ (y : List ℕ × List ℕ). y.1) same) q, tt))
two_plain (f ∷ g ∷ h ∷ fs) x e p q = absurd cc

three_plain : (rest : List (List ℕ)) (x : List ℕ × List ℕ × List ℕ) → three_fields rest ≡ Ok x → IsPlain x.0 → IsPlain x.1 → IsPlain x.2
    → AllPlain rest
three_plain [] x e p q r = absurd cc
three_plain (f ∷ []) x e p q r = absurd cc
three_plain (f ∷ g ∷ []) x e p q r = absurd cc
three_plain (f ∷ g ∷ h ∷ []) x e p q r =
    let same : (f, g, h) ≡ x = cc in (
      rw (ap (λ (y : List ℕ × List ℕ × List ℕ). y.0) same) p,
      (rw (ap (λ (y : List ℕ × List ℕ × List ℕ). y.1) same) q, (rw (ap (λ (y : List ℕ × List ℕ × List ℕ). y.2) same) r, tt)),
    )
three_plain (f ∷ g ∷ h ∷ k ∷ fs) x e p q r = absurd cc

one_or_two_plain : (rest : List (List ℕ)) (x : List ℕ × Option (List ℕ)) → one_or_two_fields rest ≡ Ok x → IsPlain x.0 → IfSome x.1 IsPlain
    → AllPlain rest
one_or_two_plain [] x e p q = absurd cc
one_or_two_plain (f ∷ []) x e p q =
    let same : (f, None) ≡ x = cc in (rw (ap (λ (y : List ℕ × Option (List ℕ)). y.0) same) p, tt)
one_or_two_plain (f ∷ g ∷ []) x e p q =
    let same : (f, Some g) ≡ x = cc in
    let second : Some g ≡ x.1 = ap (λ (y : List ℕ × Option (List ℕ)). y.1) same in
    (rw (ap (λ (y : List ℕ × Option (List ℕ)). y.0) same) p, (subst (λ (o : Option (List ℕ)). IfSome o IsPlain) (sym second) q, tt))
one_or_two_plain (f ∷ g ∷ h ∷ fs) x e p q = absurd cc

was_client : (o : Option Actor) (n : ℕ) → client_number o ≡ Some n → (a : Actor) × (o ≡ Some a)
was_client None n e = absurd cc
was_client (Some a) n e = (a, refl)

was_sequencer : (o : Option Actor) (n : ℕ) → sequencer_number o ≡ Some n → (a : Actor) × (o ≡ Some a)
was_sequencer None n e = absurd cc
was_sequencer (Some a) n e = (a, refl)

was_controller : (o : Option Actor) (n : ℕ) → controller_number o ≡ Some n → (a : Actor) × (o ≡ Some a)
was_controller None n e = absurd cc
was_controller (Some a) n e = (a, refl)

was_observer : (o : Option Actor) (n : ℕ) → observer_number o ≡ Some n → (a : Actor) × (o ≡ Some a)
was_observer None n e = absurd cc
was_observer (Some a) n e = (a, refl)

ordered_plain : (c : Configuration) (by : Option (List ℕ)) (n : ℕ) → ordered c by ≡ Some n → IfSome by IsPlain
ordered_plain c None n e = tt
ordered_plain c (Some name) n e = let one = was_controller (actor_of c name) n e in actor_plain c name one.0 one.1

module _ (c : Configuration) (rest : List (List ℕ)) (e : Event) where
  submit_plain : submit_of c rest ≡ Ok e → AllPlain rest
  submit_plain h =
      let a = then_ok (two_fields rest) (λ p. submit_event c p.0 p.1) e h in
      let b = then_ok (keeps_rule WrongField (nat_le (length a.0.1) max_op_text)) _ e a.2 in
      let d = then_ok (or_rule WrongHex (bytes_of a.0.1)) _ e b.2 in
      let g = then_ok (or_rule WrongActor (client_number (actor_of c a.0.0))) _ e d.2 in
      let client = was_client (actor_of c a.0.0) g.0 (value_ok WrongActor (client_number (actor_of c a.0.0)) g.0 g.1) in
      two_plain rest a.0 a.1 (actor_plain c a.0.0 client.0 client.1)
      (bytes_plain a.0.1 d.0 (value_ok WrongHex (bytes_of a.0.1) d.0 d.1))

  deliver_plain : deliver_of c rest ≡ Ok e → AllPlain rest
  deliver_plain h =
      let a = then_ok (two_fields rest) (λ p. deliver_event c p.0 p.1) e h in
      let b = then_ok (or_rule WrongField (number_of a.0.0)) _ e a.2 in
      let d = then_ok (or_rule WrongActor (actor_of c a.0.1)) _ e b.2 in
      two_plain rest a.0 a.1 (number_plain a.0.0 b.0 (value_ok WrongField (number_of a.0.0) b.0 b.1))
      (actor_plain c a.0.1 d.0 (value_ok WrongActor (actor_of c a.0.1) d.0 d.1))

  ticks_plain : tick_of c rest ≡ Ok e → AllPlain rest
  ticks_plain h =
      let a = then_ok (two_fields rest) (λ p. tick_event c p.0 p.1) e h in
      let b = then_ok (or_rule WrongActor (actor_of c a.0.0)) _ e a.2 in
      let d = then_ok (or_rule WrongActor (tick_named a.0.1)) _ e b.2 in
      two_plain rest a.0 a.1 (actor_plain c a.0.0 b.0 (value_ok WrongActor (actor_of c a.0.0) b.0 b.1))
      (tick_plain a.0.1 d.0 (value_ok WrongActor (tick_named a.0.1) d.0 d.1))

  install_plain : install_of c rest ≡ Ok e → AllPlain rest
  install_plain h =
      let a = then_ok (one_or_two_fields rest) (λ p. install_event c p.0 p.1) e h in
      let b = then_ok (or_rule WrongActor (sequencer_number (actor_of c a.0.0))) _ e a.2 in
      let d = then_ok (or_rule WrongActor (ordered c a.0.1)) _ e b.2 in
      let one = was_sequencer (actor_of c a.0.0) b.0 (value_ok WrongActor (sequencer_number (actor_of c a.0.0)) b.0 b.1) in
      one_or_two_plain rest a.0 a.1 (actor_plain c a.0.0 one.0 one.1)
      (ordered_plain c a.0.1 d.0 (value_ok WrongActor (ordered c a.0.1) d.0 d.1))

  crash_plain : crash_of c rest ≡ Ok e → AllPlain rest
  crash_plain h =
      let a = then_ok (one_field rest) _ e h in
      let b = then_ok (or_rule WrongActor (actor_of c a.0)) _ e a.2 in
      one_plain rest a.0 a.1 (actor_plain c a.0 b.0 (value_ok WrongActor (actor_of c a.0) b.0 b.1))

  junk_plain : junk_of c rest ≡ Ok e → AllPlain rest
  junk_plain h =
      let a = then_ok (two_fields rest) (λ p. junk_event c p.0 p.1) e h in
      let b = then_ok (keeps_rule WrongField (nat_le (length a.0.1) max_junk_text)) _ e a.2 in
      let d = then_ok (or_rule WrongHex (bytes_of a.0.1)) _ e b.2 in
      let g = then_ok (or_rule WrongActor (actor_of c a.0.0)) _ e d.2 in
      two_plain rest a.0 a.1 (actor_plain c a.0.0 g.0 (value_ok WrongActor (actor_of c a.0.0) g.0 g.1))
      (bytes_plain a.0.1 d.0 (value_ok WrongHex (bytes_of a.0.1) d.0 d.1))

  read_plain : read_of c rest ≡ Ok e → AllPlain rest
  read_plain h =
      let a = then_ok (three_fields rest) (λ p. read_event c p.0 p.1 p.2) e h in
      let b = then_ok (keeps_rule WrongField (nat_le (length a.0.2) max_key_text)) _ e a.2 in
      let d = then_ok (keeps_rule WrongField (not (is_text (codes "-") a.0.2))) _ e b.2 in
      let g = then_ok (or_rule WrongHex (key_of a.0.2)) _ e d.2 in
      let k = then_ok (or_rule WrongActor (client_number (actor_of c a.0.0))) _ e g.2 in
      let o = then_ok (or_rule WrongActor (observer_number (actor_of c a.0.1))) _ e k.2 in
      let client = was_client (actor_of c a.0.0) k.0 (value_ok WrongActor (client_number (actor_of c a.0.0)) k.0 k.1) in
      let asked = was_observer (actor_of c a.0.1) o.0 (value_ok WrongActor (observer_number (actor_of c a.0.1)) o.0 o.1) in
      three_plain rest a.0 a.1 (actor_plain c a.0.0 client.0 client.1) (actor_plain c a.0.1 asked.0 asked.1)
      (key_plain a.0.2 g.0 (value_ok WrongHex (key_of a.0.2) g.0 g.1))

  by_words : (word : List ℕ) (s d t i k j r : Bool) → is_text (codes "submit") word ≡ s → is_text (codes "deliver") word ≡ d
      → is_text (codes "tick") word ≡ t → is_text (codes "install") word ≡ i → is_text (codes "crash") word ≡ k
      → is_text (codes "junk") word ≡ j → is_text (codes "read") word ≡ r
      → (if s then submit_of c rest else if d then deliver_of c rest else if t then tick_of c rest else if i then install_of c rest
      else if k then crash_of c rest else if j then junk_of c rest else if r then read_of c rest else Err WrongWord) ≡ Ok e
      → AllPlain (word ∷ rest)
  by_words word true d t i k j r p q u v w x y h = (word_plain (codes "submit") word refl p, submit_plain h)
  by_words word false true t i k j r p q u v w x y h = (word_plain (codes "deliver") word refl q, deliver_plain h)
  by_words word false false true i k j r p q u v w x y h = (word_plain (codes "tick") word refl u, ticks_plain h)
  by_words word false false false true k j r p q u v w x y h = (word_plain (codes "install") word refl v, install_plain h)
  by_words word false false false false true j r p q u v w x y h = (word_plain (codes "crash") word refl w, crash_plain h)
  by_words word false false false false false true r p q u v w x y h = (word_plain (codes "junk") word refl x, junk_plain h)
  by_words word false false false false false false true p q u v w x y h = (word_plain (codes "read") word refl y, read_plain h)
  by_words word false false false false false false false p q u v w x y h = absurd cc

all_plain : (c : Configuration) (xs : List (List ℕ)) (e : Event) → event_of_fields c xs ≡ Ok e → AllPlain xs
all_plain c [] e h = absurd cc
all_plain c (word ∷ rest) e h =
    by_words c rest e word (is_text (codes "submit") word) (is_text (codes "deliver") word) (is_text (codes "tick") word)
    (is_text (codes "install") word) (is_text (codes "crash") word) (is_text (codes "junk") word) (is_text (codes "read") word) refl refl refl
    refl refl refl refl h

pub event_plain : (c : Configuration) (line : List ℕ) (e : Event) → event_of_fields c (fields line) ≡ Ok e
    → list_all is_plain line ≡ true
unfolding fields
event_plain c line e h = line_plain [] line (all_plain c (fields_on [] line) e h)
