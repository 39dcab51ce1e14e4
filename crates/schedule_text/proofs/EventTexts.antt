-- Reading the line of an event gives the event.
use Rattle.std.proofs.Common.{◌≡◌, ℕ, zero, suc, ◌+◌, ◌^◌, ◌<◌, ◌≤◌, true, Some, refl, sym, subst}
use Rattle.std.proofs.Common.{◌∙◌, arith, length, List, [], ◌∷◌, ◌++◌, append_assoc, length-append}
use Rattle.std.proofs.Common.{decimal, codes, nat_le}
use Rattle.std.specs.Prelude.{Ok}
use Rattle.std.specs.List.{flat_map, list_all}
use Rattle.std.proofs.lemmas.Bool.{ne_eqb, le-leb, le-ltb, lt-leb, leb-true, and_parts, and_from}
use Rattle.std.proofs.lemmas.List.Folds.{list_all-append}
use Rattle.hex.specs.Hex.{IsBytes}
use Rattle.nop_types.specs.Configuration.{Configuration}
use Rattle.nop_types.specs.declared.input.Tick.{Tick}
use Rattle.nop_types.specs.declared.input.Tick.TheVariants as ticks
use Rattle.nop_types.specs.declared.limits.TheConstants.{MAX_LINES, MAX_LINE_BYTES, MAX_KEY_BYTES, MAX_OP_BYTES, MAX_DATAGRAM_BYTES}
use Rattle.nop_types.specs.declared.output.Actor.{Actor}
use Rattle.nop_types.specs.declared.output.Actor.TheVariants as actors
use Rattle.schedule_text.specs.declared.event.Event.{Event}
use Rattle.schedule_text.specs.declared.event.Event.TheVariants as events
use Rattle.schedule_text.specs.EventText.{HasWord, HasLine, tick_text, event_text, IsEventOf, Means}
use Rattle.line_fields.specs.Fields.{IsActorOf}
use Rattle.schedule_text.specs.EventText.{IsTyped, IsTypedKey, named_controller, event_word, event_fields}
use Rattle.line_fields.proofs.FieldTexts.{is_mark, decimal_marked, number_again, Small, actor_again, small_counts}
use Rattle.line_fields.proofs.FieldTexts.{bytes_again, key_again, no_dash, hex_marked, hex_within, AllMarked, line_fields, decimal_short}
use Rattle.line_fields.proofs.FieldTexts.{actor_marked, actor_short}
use Rattle.transcript_text.specs.LineText.{after_space, line_of}
use Rattle.schedule_text.specs.Rules.{is_plain, max_op_text, max_key_text, max_junk_text, event_of_fields, event_of, plain_line, submit_event}
use Rattle.schedule_text.specs.Rules.{deliver_event, tick_event, install_of, crash_of, junk_event, read_event}
use Rattle.schedule_text.specs.Ticks.{tick_named, takes_tick}
use Rattle.transcript_text.specs.Transcript.{actor_text, hex_text}

-- ---- ticks

tick_again : (t : Tick) → HasWord t → tick_named (tick_text t) ≡ Some t
unfolding tick_named
tick_again ticks.Next h = absurd h
tick_again (ticks.Install j) h = absurd h
tick_again _ h = refl

-- ---- the bytes of a line

mark_is_plain : (b : ℕ) → is_mark b ≡ true → is_plain b ≡ true
mark_is_plain b e =
    let parts = and_parts (nat_le 33 b) (nat_le b 126) e in
    and_from (nat_le 32 b) (nat_le b 126) (le-leb 32 b (let low = leb-true 33 b parts.0 in omega arith)) parts.1

marked_is_plain : (xs : List ℕ) → list_all is_mark xs ≡ true → list_all is_plain xs ≡ true
marked_is_plain [] e = refl
marked_is_plain (b ∷ bs) e =
    let parts = and_parts (is_mark b) (list_all is_mark bs) e in
    and_from (is_plain b) (list_all is_plain bs) (mark_is_plain b parts.0) (marked_is_plain bs parts.1)

both_plain : (xs ys : List ℕ) → list_all is_plain xs ≡ true → list_all is_plain ys ≡ true → list_all is_plain (xs ++ ys) ≡ true
both_plain xs ys e f = list_all-append is_plain xs ys ∙ and_from (list_all is_plain xs) (list_all is_plain ys) e f

spaced_plain : (xs : List (List ℕ)) → AllMarked xs → list_all is_plain (flat_map after_space xs) ≡ true
spaced_plain [] h = refl
spaced_plain (x ∷ xs) h = both_plain x (flat_map after_space xs) (marked_is_plain x h.0) (spaced_plain xs h.1)

line_plain : (word : List ℕ) (xs : List (List ℕ)) → list_all is_mark word ≡ true → AllMarked xs
    → length (word ++ flat_map after_space xs) ≤ MAX_LINE_BYTES
    → plain_line (word ++ flat_map after_space xs) ≡ Ok (word ++ flat_map after_space xs)
line_plain word xs e h short =
    rw (le-ltb MAX_LINE_BYTES (length (word ++ flat_map after_space xs)) short)
    (rw (both_plain word (flat_map after_space xs) (marked_is_plain word e) (spaced_plain xs h)) refl)

-- a line of such fields means what its fields mean
line_means : (c : Configuration) (before : ℕ) (word : List ℕ) (xs : List (List ℕ)) (e : Event) → before < MAX_LINES
    → list_all is_mark word ≡ true → AllMarked xs → length (word ++ flat_map after_space xs) ≤ MAX_LINE_BYTES
    → event_of_fields c (word ∷ xs) ≡ Ok e → event_of c before (word ++ flat_map after_space xs) ≡ Ok e
unfolding event_of
line_means c before word xs e room marked all short is =
    rw (lt-leb MAX_LINES before room)
    (rw (line_plain word xs marked all short) (rw (line_fields word xs marked all) is))

one_length : (word a : List ℕ) → length (word ++ flat_map after_space (a ∷ [])) ≡ length word + length a + 1
one_length word a = omega (arith, length-append word ((32 ∷ a) ++ []), length-append (32 ∷ a) [])

two_length : (word a b : List ℕ) → length (word ++ flat_map after_space (a ∷ b ∷ [])) ≡ length word + length a + length b + 2
two_length word a b =
    omega (arith, length-append word ((32 ∷ a) ++ ((32 ∷ b) ++ [])), length-append (32 ∷ a) ((32 ∷ b) ++ []), length-append (32 ∷ b) [])

three_length : (word a b d : List ℕ)
    → length (word ++ flat_map after_space (a ∷ b ∷ d ∷ [])) ≡ length word + length a + length b + length d + 3
three_length word a b d =
    omega (
      arith,
      length-append word ((32 ∷ a) ++ ((32 ∷ b) ++ ((32 ∷ d) ++ []))),
      length-append (32 ∷ a) ((32 ∷ b) ++ ((32 ∷ d) ++ [])),
      length-append (32 ∷ b) ((32 ∷ d) ++ []),
      length-append (32 ∷ d) [],
    )

-- ---- events

tick_marked : (t : Tick) → list_all is_mark (tick_text t) ≡ true
tick_marked ticks.Suspect = refl
tick_marked _ = refl

tick_short : (t : Tick) → length (tick_text t) ≤ 7
tick_short ticks.Suspect = omega arith
tick_short _ = omega arith

module _ (c : Configuration) (small : Small c) where
  submit_again : (client : ℕ) (op : List ℕ) → client < c.clients → length op ≤ MAX_OP_BYTES → IsBytes op
      → submit_event c (actor_text (actors.Client client)) (hex_text op) ≡ Ok (events.Submit client op)
  submit_again client op there short bytes =
      let room : nat_le (length (hex_text op)) max_op_text ≡ true =
      le-leb (length (hex_text op)) max_op_text (hex_within op MAX_OP_BYTES (omega arith) short) in
      rw room (rw (bytes_again op bytes) (rw (actor_again c small (actors.Client client) there) refl))

  deliver_again : (index : ℕ) (a : Actor) → index < 2 ^ 64 → IsActorOf c a
      → deliver_event c (decimal index) (actor_text a) ≡ Ok (events.Deliver index a)
  deliver_again index a fits there = rw (number_again index fits) (rw (actor_again c small a there) refl)

  tick_read : (a : Actor) (t : Tick) → HasWord t → IsActorOf c a → takes_tick a t ≡ true
      → tick_event c (actor_text a) (tick_text t) ≡ Ok (events.Tick a t)
  tick_read a t word there takes = rw (actor_again c small a there) (rw (tick_again t word) (rw takes refl))

  install_again : (j : ℕ) → j < c.sequencers → install_of c (actor_text (actors.Sequencer j) ∷ []) ≡ Ok (events.Install 0 j)
  install_again j there = rw (actor_again c small (actors.Sequencer j) there) refl

  install_named : (k j : ℕ) → k < c.controllers → j < c.sequencers
      → install_of c (actor_text (actors.Sequencer j) ∷ actor_text (actors.Controller k) ∷ []) ≡ Ok (events.Install k j)
  install_named k j by there = rw (actor_again c small (actors.Sequencer j) there, actor_again c small (actors.Controller k) by) refl

  crash_again : (a : Actor) → IsActorOf c a → crash_of c (actor_text a ∷ []) ≡ Ok (events.Crash a)
  crash_again a there = rw (actor_again c small a there) refl

  junk_again : (a : Actor) (bytes : List ℕ) → IsActorOf c a → length bytes ≤ MAX_DATAGRAM_BYTES → IsBytes bytes
      → junk_event c (actor_text a) (hex_text bytes) ≡ Ok (events.Junk a bytes)
  junk_again a bytes there short are =
      let room : nat_le (length (hex_text bytes)) max_junk_text ≡ true =
      le-leb (length (hex_text bytes)) max_junk_text (hex_within bytes MAX_DATAGRAM_BYTES (omega arith) short) in
      rw room (rw (bytes_again bytes are) (rw (actor_again c small a there) refl))

  read_again : (client observer : ℕ) (key : List ℕ) → client < c.clients → observer < c.observers → IsTypedKey key
      → read_event c (actor_text (actors.Client client)) (actor_text (actors.Observer observer)) (hex_text key)
      ≡ Ok (events.Read client observer key)
  read_again client observer key there asked typed =
      let room : nat_le (length (hex_text key)) max_key_text ≡ true =
      le-leb (length (hex_text key)) max_key_text (hex_within key MAX_KEY_BYTES (omega arith) typed.most) in
      rw room
      (rw (no_dash key typed.some)
      (rw (key_again key typed.some typed.most typed.bytes)
      (rw (actor_again c small (actors.Client client) there) (rw (actor_again c small (actors.Observer observer) asked) refl))))

  one_field_means : (before : ℕ) (word a : List ℕ) (e : Event) → before < MAX_LINES → list_all is_mark word ≡ true
      → list_all is_mark a ≡ true → length word ≤ 7 → length a ≤ 21 → event_of_fields c (word ∷ a ∷ []) ≡ Ok e
      → event_of c before (word ++ flat_map after_space (a ∷ [])) ≡ Ok e
  one_field_means before word a e room plain first low short is =
      line_means c before word (a ∷ []) e room plain (first, tt) (omega (arith, one_length word a)) is

  two_fields_mean : (before : ℕ) (word a b : List ℕ) (e : Event) → before < MAX_LINES → list_all is_mark word ≡ true
      → list_all is_mark a ≡ true → list_all is_mark b ≡ true → length word ≤ 7 → length a ≤ 21 → length b ≤ 3000
      → event_of_fields c (word ∷ a ∷ b ∷ []) ≡ Ok e → event_of c before (word ++ flat_map after_space (a ∷ b ∷ [])) ≡ Ok e
  two_fields_mean before word a b e room plain first second low short long is =
      line_means c before word (a ∷ b ∷ []) e room plain (first, (second, tt)) (omega (arith, two_length word a b)) is

  three_fields_mean : (before : ℕ) (word a b d : List ℕ) (e : Event) → before < MAX_LINES → list_all is_mark word ≡ true
      → list_all is_mark a ≡ true → list_all is_mark b ≡ true → list_all is_mark d ≡ true → length word ≤ 7 → length a ≤ 21
      → length b ≤ 21 → length d ≤ 3000 → event_of_fields c (word ∷ a ∷ b ∷ d ∷ []) ≡ Ok e
      → event_of c before (word ++ flat_map after_space (a ∷ b ∷ d ∷ [])) ≡ Ok e
  three_fields_mean before word a b d e room plain first second third low short near long is =
      line_means c before word (a ∷ b ∷ d ∷ []) e room plain (first, (second, (third, tt))) (omega (arith, three_length word a b d)) is

  -- controller 0 is not named, and each other one is
  install_read : (k j before : ℕ) → before < MAX_LINES → k < c.controllers → j < c.sequencers
      → event_of c before (event_text (events.Install k j)) ≡ Ok (events.Install k j)
  unfolding event_text
  install_read zero j before room by there =
      let a : Actor = actors.Sequencer j in
      one_field_means before (codes "install") (actor_text a) (events.Install 0 j) room refl (actor_marked c small a there) (omega arith)
      (actor_short c small a there) (install_again j there)
  install_read (suc k) j before room by there =
      let a : Actor = actors.Sequencer j in
      let b : Actor = actors.Controller (suc k) in
      let named : named_controller (suc k) ≡ actor_text b ∷ [] = rw (ne_eqb (suc k) 0 (λ e. omega (arith, e))) refl in
      subst (λ (xs : List (List ℕ)). event_of c before (codes "install" ++ flat_map after_space (actor_text a ∷ xs))
      ≡ Ok (events.Install (suc k) j)) (sym named)
      (two_fields_mean before (codes "install") (actor_text a) (actor_text b) (events.Install (suc k) j) room refl
      (actor_marked c small a there) (actor_marked c small b by) (omega arith) (actor_short c small a there)
      (let m = actor_short c small b by in omega arith) (install_named (suc k) j by there))

  text_read : (e : Event) (before : ℕ) → IsTyped e → HasLine e → before < MAX_LINES → IsEventOf c e
      → event_of c before (event_text e) ≡ Ok e
  unfolding event_text
  text_read (events.Submit client op) before typed line room h =
      let a : Actor = actors.Client client in
      two_fields_mean before (codes "submit") (actor_text a) (hex_text op) (events.Submit client op) room refl (actor_marked c small a h)
      (hex_marked op typed.1) (omega arith) (actor_short c small a h)
      (let k = hex_within op MAX_OP_BYTES (omega arith) typed.0 in omega arith) (submit_again client op h typed.0 typed.1)
  text_read (events.Deliver index a) before typed line room h =
      two_fields_mean before (codes "deliver") (decimal index) (actor_text a) (events.Deliver index a) room refl
      (decimal_marked index typed) (actor_marked c small a h) (omega arith) (let k = decimal_short index typed in omega arith)
      (let k = actor_short c small a h in omega arith) (deliver_again index a typed h)
  text_read (events.Tick a t) before typed line room h =
      two_fields_mean before (codes "tick") (actor_text a) (tick_text t) (events.Tick a t) room refl (actor_marked c small a h.0) (tick_marked t)
      (omega arith) (actor_short c small a h.0) (let k = tick_short t in omega arith) (tick_read a t line h.0 h.1)
  text_read (events.Install k j) before typed line room h = install_read k j before room h.0 h.1
  text_read (events.Crash a) before typed line room h =
      one_field_means before (codes "crash") (actor_text a) (events.Crash a) room refl (actor_marked c small a h) (omega arith)
      (actor_short c small a h) (crash_again a h)
  text_read (events.Junk a bytes) before typed line room h =
      two_fields_mean before (codes "junk") (actor_text a) (hex_text bytes) (events.Junk a bytes) room refl (actor_marked c small a h)
      (hex_marked bytes typed) (omega arith) (actor_short c small a h)
      (let k = hex_within bytes MAX_DATAGRAM_BYTES (omega arith) line in omega arith) (junk_again a bytes h line typed)
  text_read (events.Read client observer key) before typed line room h =
      let a : Actor = actors.Client client in
      let b : Actor = actors.Observer observer in
      three_fields_mean before (codes "read") (actor_text a) (actor_text b) (hex_text key) (events.Read client observer key) room refl
      (actor_marked c small a h.0) (actor_marked c small b h.1) (hex_marked key typed.bytes) (omega arith) (actor_short c small a h.0)
      (actor_short c small b h.1) (let k = hex_within key MAX_KEY_BYTES (omega arith) typed.most in omega arith)
      (read_again client observer key h.0 h.1 typed)

pub text_means : (e : Event) → IsTyped e → HasLine e → Means (event_text e) e
text_means e typed line c before is room h = text_read c (small_counts c is) e before typed line room h

-- the line with its end
pub whole_line : (e : Event) → line_of (event_word e) (event_fields e) ≡ event_text e ++ 10 ∷ []
unfolding event_text
whole_line e = rw append_assoc refl
