-- What is known is what was told.
use Rattle.std.proofs.Common.{◌≡◌, ℕ, ◌≤◌, max, List, [], ◌∷◌, ◌++◌, Bool, true, false, cond, Option, Some, None, refl, sym, ap, ◌∙◌, arith}
use Rattle.std.proofs.Common.{append-nil, append_assoc, subst, nat_le, ◌-◌}
use Rattle.std.proofs.lemmas.Bool.{leb-true, leb-false}
use Rattle.std.specs.Option.{is_some}
use Rattle.nop_types.specs.Lists.{Has}
use Rattle.nop_types.specs.Views.{outranks}
use Rattle.nop_types.specs.declared.view.View.{View}
use Rattle.lemmas.proofs.Members.{Has-append_left, Has-push}
use Rattle.lemmas.proofs.Views.{outranks-true, outranks-from_ranks}
use Rattle.roll_call.specs.Rolls as rolls
use Rattle.roll_call.specs.Rolls.{Rolled, is_due}
use Rattle.watching.specs.Laws.{known_in, length_in, rose, Told, telling_at, heard_at, told_in, IsTold, IsOfTold}
use Rattle.watching.specs.Tellings.{told_by}
use Rattle.watching.specs.Turns.{Turn, heard, after_turn, after_turns}
use Rattle.watching.specs.Watching.{Watching, opening, hear, told, tick, tick_by, tick_if, show_if, seen_after, change_by, is_news, state_at}
use Rattle.watching.specs.Watching.{next_second, round, round_if}
use Rattle.watching.specs.declared.lines.Change.{Change}
use Rattle.watching.specs.declared.lines.State.{State}
use Rattle.watching.specs.declared.seen.Known.{Known}
use Rattle.watching.specs.declared.seen.Seen.{Seen}
use Rattle.watching.specs.declared.seen.TheConstants.{SECOND_MILLIS}
use Rattle.watching.specs.declared.telling.Telling.{Telling}

-- ---- a second that ends tells nothing

show_keeps : (b : Bool) (w : Watching) (s : State) → (show_if b w s).0.seen ≡ w.seen
show_keeps true w s = refl
show_keeps false w s = refl

tick_if_keeps : (b : Bool) (w : Watching) (s : Seen) (now : ℕ) → w.seen ≡ Some s → known_in (tick_if b w s now).0.seen ≡ known_in w.seen
tick_if_keeps true w s now is =
    ap known_in (show_keeps (is_news w.shown (state_at s now)) (record w { seen = Some (next_second s now) }) (state_at s now))
    ∙ ap known_in (sym is)
tick_if_keeps false w s now is = refl

tick_by_keeps : (o : Option Seen) (w : Watching) (now : ℕ) → w.seen ≡ o → known_in (tick_by o w now).0.seen ≡ known_in w.seen
tick_by_keeps None w now is = refl
tick_by_keeps (Some s) w now is = tick_if_keeps (nat_le SECOND_MILLIS (now - s.since)) w s now is

pub tick_keeps : (w : Watching) (now : ℕ) → known_in (tick w now).0.seen ≡ known_in w.seen
tick_keeps w now = tick_by_keeps w.seen w now refl

round_if_keeps : (b : Bool) (w : Watching) (now : ℕ) → (round_if b w now).seen ≡ w.seen
round_if_keeps true w now = refl
round_if_keeps false w now = refl

-- neither does a round
round_keeps : (w : Watching) (now : ℕ) → known_in (round w now).seen ≡ known_in w.seen
round_keeps w now = ap known_in (round_if_keeps (is_due w.roll now) w now)

-- ---- lengths

known_rises : (b : Bool) (k l : Known) → k.synced ≤ l.synced → k.synced ≤ (cond b k l).synced
known_rises true k l h = omega arith
known_rises false k l h = h

seen_rises : (o : Option Seen) (now : ℕ) (t : Telling) → length_in (known_in o) ≤ (seen_after o now t).known.synced
seen_rises None now t = omega arith
seen_rises (Some s) now t =
    known_rises (outranks s.known.view t.view) s.known (record { view = t.view; synced = max s.known.synced t.len; told = now }) (omega arith)

told_rises : (w : Watching) (now : ℕ) (o : Option Telling) → length_in (known_in w.seen) ≤ length_in (known_in (told w now o).0.seen)
told_rises w now None = omega arith
told_rises w now (Some t) = seen_rises w.seen now t

pub hear_rises : (w : Watching) (now : ℕ) (bytes : List ℕ)
    → length_in (known_in w.seen) ≤ length_in (known_in (hear w now bytes).0.seen)
hear_rises w now bytes =
    told_rises (record w { kept = (told_by w.replicas w.kept bytes).0; roll = rolls.heard w.roll now bytes }) now (told_by w.replicas w.kept bytes).1

pub tick_stays : (w : Watching) (now : ℕ) → length_in (known_in (tick w now).0.seen) ≡ length_in (known_in w.seen)
tick_stays w now = ap length_in (tick_keeps w now)

-- ---- changes of the view

not_both : (a b : View) → outranks a b ≡ true → outranks b a ≡ false
not_both a b e = outranks-from_ranks b a (outranks-true a b e)

not_itself : (b : Bool) (a : View) → outranks a a ≡ b → outranks a a ≡ false
not_itself true a e = not_both a a e
not_itself false a e = e

module _ (s : Seen) (now : ℕ) (t : Telling) where
  abbrev other : Known
  other = record { view = t.view; synced = max s.known.synced t.len; told = now }

  -- told of a lesser view, or not
  change_is : (b : Bool) → outranks s.known.view t.view ≡ b
      → is_some (change_by (Some s) now t) ≡ outranks (cond b s.known other).view s.known.view
  change_is true e =
      let none = not_both s.known.view t.view e in
      let same = not_itself (outranks s.known.view s.known.view) s.known.view refl in
      rw (none, same) refl
  change_is false e = some_if (outranks t.view s.known.view)
    where
      some_if : (b : Bool) → is_some {T = Change} (cond b (Some (record { view = t.view; at = now })) None) ≡ b
      some_if true = refl
      some_if false = refl

told_changes : (o : Option Seen) (now : ℕ) (t : Telling) → is_some (change_by o now t) ≡ rose (known_in o) (Some (seen_after o now t).known)
told_changes None now t = refl
told_changes (Some s) now t = change_is s now t (outranks s.known.view t.view) refl

silent : (k : Option Known) → false ≡ rose k k
silent None = refl
silent (Some k) = sym (not_itself (outranks k.view k.view) k.view refl)

told_is_rise : (w : Watching) (now : ℕ) (o : Option Telling)
    → is_some (told w now o).1 ≡ rose (known_in w.seen) (known_in (told w now o).0.seen)
told_is_rise w now None = silent (known_in w.seen)
told_is_rise w now (Some t) = told_changes w.seen now t

pub hear_is_rise : (w : Watching) (now : ℕ) (bytes : List ℕ)
    → is_some (hear w now bytes).1 ≡ rose (known_in w.seen) (known_in (hear w now bytes).0.seen)
hear_is_rise w now bytes =
    told_is_rise (record w { kept = (told_by w.replicas w.kept bytes).0; roll = rolls.heard w.roll now bytes }) now (told_by w.replicas w.kept bytes).1

-- ---- what is known is of what was told

earlier : (xs ys : List Told) (k : Known) → IsTold xs k → IsTold (xs ++ ys) k
earlier xs ys k h = record {
  its_length = (h.its_length.0, (Has-append_left xs ys h.its_length.0 h.its_length.1.0, h.its_length.1.1));
  its_view = (h.its_view.0, (Has-append_left xs ys h.its_view.0 h.its_view.1.0, h.its_view.1.1));
}

module _ (xs : List Told) (now : ℕ) (t : Telling) where
  abbrev more : List Told
  more = xs ++ record { now = now; telling = t } ∷ []

  -- the greater of two lengths is one of them
  length_of : (k : Known) → IsTold xs k → (b : Bool) → nat_le k.synced t.len ≡ b
      → (u : Told) × (Has more u × (u.telling.len ≡ max k.synced t.len))
  length_of k h true e =
      let same : t.len ≡ max k.synced t.len = omega (arith, leb-true k.synced t.len e) in
      (record { now = now; telling = t }, (Has-push xs (record { now = now; telling = t }), same))
  length_of k h false e =
      let same : k.synced ≡ max k.synced t.len = omega (arith, leb-false k.synced t.len e) in
      (h.its_length.0, (Has-append_left xs _ h.its_length.0 h.its_length.1.0, h.its_length.1.1 ∙ same))

  known_is : (k : Known) → IsTold xs k → (b : Bool) → IsTold more (cond b k (record { view = t.view; synced = max k.synced t.len; told = now }))
  known_is k h true = earlier xs (record { now = now; telling = t } ∷ []) k h
  known_is k h false = record {
    its_length = length_of k h (nat_le k.synced t.len) refl;
    its_view = (record { now = now; telling = t }, (Has-push xs (record { now = now; telling = t }), (refl, refl)));
  }

  seen_is : (o : Option Seen) → IsOfTold xs (known_in o) → IsTold more (seen_after o now t).known
  seen_is None h = record {
    its_length = (record { now = now; telling = t }, (Has-push xs (record { now = now; telling = t }), refl));
    its_view = (record { now = now; telling = t }, (Has-push xs (record { now = now; telling = t }), (refl, refl)));
  }
  seen_is (Some s) h = known_is s.known h (outranks s.known.view t.view)

told_is : (xs : List Told) (w : Watching) (now : ℕ) (o : Option Telling) → IsOfTold xs (known_in w.seen)
    → IsOfTold (xs ++ telling_at now o) (known_in (told w now o).0.seen)
told_is xs w now None h = rw append-nil h
told_is xs w now (Some t) h = seen_is xs now t w.seen h

heard_is : (xs : List Told) (w : Watching) (now : ℕ) (o : Option (List ℕ)) → IsOfTold xs (known_in w.seen)
    → IsOfTold (xs ++ heard_at w now o) (known_in (heard w now o).0.seen)
heard_is xs w now None h = rw append-nil h
heard_is xs w now (Some bytes) h =
    told_is xs (record w { kept = (told_by w.replicas w.kept bytes).0; roll = rolls.heard w.roll now bytes }) now (told_by w.replicas w.kept bytes).1 h

turn_is : (xs : List Told) (w : Watching) (t : Turn) → IsOfTold xs (known_in w.seen)
    → IsOfTold (xs ++ heard_at w t.now t.datagram) (known_in (after_turn w t).0.seen)
turn_is xs w t h =
    let first = (heard w t.now t.datagram).0 in
    let same = tick_keeps (round first t.now) t.now ∙ round_keeps first t.now in
    subst (IsOfTold (xs ++ heard_at w t.now t.datagram)) (sym same) (heard_is xs w t.now t.datagram h)

turns_are : (xs : List Told) (w : Watching) (ts : List Turn) → IsOfTold xs (known_in w.seen)
    → IsOfTold (xs ++ told_in w ts) (known_in (after_turns w ts).0.seen)
turns_are xs w [] h = rw append-nil h
turns_are xs w (t ∷ ts) h =
    rw (← append_assoc) (turns_are (xs ++ heard_at w t.now t.datagram) (after_turn w t).0 ts (turn_is xs w t h))

pub known_is_told : (redraws : Bool) (n : ℕ) (roll : Rolled) (ts : List Turn)
    → IsOfTold (told_in (opening redraws n roll) ts) (known_in (after_turns (opening redraws n roll) ts).0.seen)
known_is_told redraws n roll ts = turns_are [] (opening redraws n roll) ts refl
