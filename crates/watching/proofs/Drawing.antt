-- On a screen stands what was shown last.
use Rattle.std.proofs.Common.{◌≡◌, ℕ, ◌-◌, List, [], ◌∷◌, ◌++◌, Bool, true, false, cond, Option, Some, None, refl, sym, ap, subst, ◌∙◌}
use Rattle.std.proofs.Common.{nat_le, ◌==◌, eqb-true, append-nil, append_assoc, inl, inr}
use Rattle.std.proofs.lemmas.Bool.{and_parts}
use Rattle.std.specs.List.{flat_map}
use Rattle.std.specs.Option.{option_or}
use Rattle.roll_call.specs.Lines.{standing_lines}
use Rattle.roll_call.specs.Rolls as rolls
use Rattle.roll_call.specs.Rolls.{Rolled, is_due, standings}
use Rattle.roll_call.specs.declared.node.Asked.{Asked}
use Rattle.roll_call.proofs.Telling.{answers_stay, silence_is_sameness}
use Rattle.watching.specs.Lines.{change_line, change_lines, is_warning, over_line, state_line, state_lines, warning_line}
use Rattle.watching.specs.Lines.{warning_news}
use Rattle.watching.specs.Screens.{clearing, drawn, last_lines, IsScreen}
use Rattle.watching.specs.Tellings.{told_by}
use Rattle.watching.specs.Turns.{Turn, heard, turned, news, round_news, round_news_if, after_turn, after_turns}
use Rattle.watching.specs.Watching.{Watching, opening, told, tick, tick_by, tick_if, show_if, is_news, state_at, next_second, round, round_if}
use Rattle.watching.specs.declared.lines.Change.{Change}
use Rattle.watching.specs.declared.lines.State.{State}
use Rattle.watching.specs.declared.lines.Warning.{Warning}
use Rattle.watching.specs.declared.seen.Seen.{Seen}
use Rattle.watching.specs.declared.seen.TheConstants.{SECOND_MILLIS}
use Rattle.watching.specs.declared.telling.Telling.{Telling}

-- ---- what is left as it was where nothing is shown

record Alike (v w : Watching) : Type 0 where
  replicas : v.replicas ≡ w.replicas
  redraws : v.redraws ≡ w.redraws
  standings : standings v.roll ≡ standings w.roll
  warned : v.warned ≡ w.warned

show_alike : (b : Bool) (w : Watching) (s : State) → Alike (show_if b w s).0 w
show_alike true w s = record { replicas = refl; redraws = refl; standings = refl; warned = refl }
show_alike false w s = record { replicas = refl; redraws = refl; standings = refl; warned = refl }

show_changed : (b : Bool) (w : Watching) (s : State) → (show_if b w s).0.changed ≡ w.changed
show_changed true w s = refl
show_changed false w s = refl

show_shown : (b : Bool) (w : Watching) (s : State) → (show_if b w s).1 ≡ None → (show_if b w s).0.shown ≡ w.shown
show_shown true w s none = absurd cc
show_shown false w s none = refl

module _ (w : Watching) (s : Seen) (now : ℕ) where
  abbrev later : Watching
  later = record w { seen = Some (next_second s now) }

  if_alike : (b : Bool) → Alike (tick_if b w s now).0 w
  if_alike true =
      let same = show_alike (is_news w.shown (state_at s now)) later (state_at s now) in
      record { replicas = same.replicas; redraws = same.redraws; standings = same.standings; warned = same.warned }
  if_alike false = record { replicas = refl; redraws = refl; standings = refl; warned = refl }

  if_changed : (b : Bool) → (tick_if b w s now).0.changed ≡ w.changed
  if_changed true = show_changed (is_news w.shown (state_at s now)) later (state_at s now)
  if_changed false = refl

  if_shown : (b : Bool) → (tick_if b w s now).1 ≡ None → (tick_if b w s now).0.shown ≡ w.shown
  if_shown true none = show_shown (is_news w.shown (state_at s now)) later (state_at s now) none
  if_shown false none = refl

module _ (w : Watching) (now : ℕ) where
  by_alike : (o : Option Seen) → Alike (tick_by o w now).0 w
  by_alike None = record { replicas = refl; redraws = refl; standings = refl; warned = refl }
  by_alike (Some s) = if_alike w s now (nat_le SECOND_MILLIS (now - s.since))

  by_changed : (o : Option Seen) → (tick_by o w now).0.changed ≡ w.changed
  by_changed None = refl
  by_changed (Some s) = if_changed w s now (nat_le SECOND_MILLIS (now - s.since))

  by_shown : (o : Option Seen) → (tick_by o w now).1 ≡ None → (tick_by o w now).0.shown ≡ w.shown
  by_shown None none = refl
  by_shown (Some s) none = if_shown w s now (nat_le SECOND_MILLIS (now - s.since)) none

told_alike : (w : Watching) (now : ℕ) (o : Option Telling) → Alike (told w now o).0 w
told_alike w now None = record { replicas = refl; redraws = refl; standings = refl; warned = refl }
told_alike w now (Some t) = record { replicas = refl; redraws = refl; standings = refl; warned = refl }

told_shown : (w : Watching) (now : ℕ) (o : Option Telling) → (told w now o).0.shown ≡ w.shown
told_shown w now None = refl
told_shown w now (Some t) = refl

told_changed : (w : Watching) (now : ℕ) (o : Option Telling) → (told w now o).1 ≡ None → (told w now o).0.changed ≡ w.changed
told_changed w now None none = refl
told_changed w now (Some t) none = ap (λ (c : Option Change). option_or c w.changed) none

module _ (w : Watching) (now : ℕ) where
  abbrev joined : List ℕ → Watching
  joined bytes = record w { kept = (told_by w.replicas w.kept bytes).0; roll = rolls.heard w.roll now bytes }

  heard_alike : (d : Option (List ℕ)) → Alike (heard w now d).0 w
  heard_alike None = record { replicas = refl; redraws = refl; standings = refl; warned = refl }
  heard_alike (Some bytes) =
      let same = told_alike (joined bytes) now (told_by w.replicas w.kept bytes).1 in
      let marked = answers_stay w.roll now bytes in
      record { replicas = same.replicas; redraws = same.redraws; standings = same.standings ∙ marked; warned = same.warned }

  heard_shown : (d : Option (List ℕ)) → (heard w now d).0.shown ≡ w.shown
  heard_shown None = refl
  heard_shown (Some bytes) = told_shown (joined bytes) now (told_by w.replicas w.kept bytes).1

  heard_changed : (d : Option (List ℕ)) → (heard w now d).1 ≡ None → (heard w now d).0.changed ≡ w.changed
  heard_changed None none = refl
  heard_changed (Some bytes) none = told_changed (joined bytes) now (told_by w.replicas w.kept bytes).1 none

-- ---- a line is not empty

no_change_line : (n : ℕ) (c : Option Change) (rest : List ℕ) → change_lines n c ++ rest ≡ [] → c ≡ None
unfolding change_line
no_change_line n None rest e = refl
no_change_line n (Some c) rest e = absurd cc

no_state_line : (n : ℕ) (s : Option State) → state_lines n s ≡ [] → s ≡ None
unfolding state_line
no_state_line n None e = refl
no_state_line n (Some s) e = absurd cc

no_warning_line : (w : Warning) → warning_line w ≡ [] → ⊥
unfolding warning_line
no_warning_line w e = cc

no_over_line : (now : ℕ) → over_line now ≡ [] → ⊥
unfolding over_line
no_over_line now e = cc

none_both : (xs ys : List ℕ) → xs ++ ys ≡ [] → (xs ≡ []) × (ys ≡ [])
none_both [] ys e = (refl, e)
none_both (x ∷ xs) ys e = absurd cc

-- ---- a round

same_if : (v w : Warning) (b : Bool) → is_warning (Some v) w ≡ b → cond b [] (warning_line w) ≡ [] → Some w ≡ Some v
same_if v w true is none =
    let both = and_parts (v.controller == w.controller) (v.since == w.since) is in
    let of_number : v.controller ≡ w.controller = eqb-true v.controller w.controller both.0 in
    let of_time : v.since ≡ w.since = eqb-true v.since w.since both.1 in
    ap (λ (c : ℕ). Some (record { controller = c; since = w.since })) (sym of_number)
    ∙ ap (λ (t : ℕ). Some (record { controller = v.controller; since = t })) (sym of_time)
same_if v w false is none = absurd (no_warning_line w none)

same_warning : (now : ℕ) (before after : Option Warning) → warning_news now before after ≡ [] → after ≡ before
same_warning now None None none = refl
same_warning now (Some v) None none = absurd (no_over_line now none)
same_warning now None (Some w) none = absurd (no_warning_line w none)
same_warning now (Some v) (Some w) none = same_if v w (is_warning (Some v) w) refl none

module _ (w : Watching) (now : ℕ) where
  rounded_alike : (b : Bool) → ((round_if b w now).replicas ≡ w.replicas) × ((round_if b w now).redraws ≡ w.redraws)
  rounded_alike true = (refl, refl)
  rounded_alike false = (refl, refl)

  rounded_changed : (b : Bool) → (round_if b w now).changed ≡ w.changed
  rounded_changed true = refl
  rounded_changed false = refl

  rounded_shown : (b : Bool) → (round_if b w now).shown ≡ w.shown
  rounded_shown true = refl
  rounded_shown false = refl

  rounded_standings : (b : Bool) → is_due w.roll now ≡ b → round_news_if b w now ≡ [] → standings (round_if b w now).roll ≡ standings w.roll
  rounded_standings true due none =
      let of_nodes = (none_both (rolls.news w.roll now) (warning_news now w.warned (round w now).warned) none).0 in
      ap (λ (nodes : List Asked). flat_map (λ (a : Asked). standing_lines a.node.actor a.standing) nodes)
      (silence_is_sameness w.roll now of_nodes)
  rounded_standings false due none = refl

  rounded_warned : (b : Bool) → is_due w.roll now ≡ b → round_news_if b w now ≡ [] → (round_if b w now).warned ≡ w.warned
  rounded_warned true due none =
      let of_warning = (none_both (rolls.news w.roll now) (warning_news now w.warned (round w now).warned) none).1 in
      let same : (round w now).warned ≡ (round_if true w now).warned = ap (λ (b : Bool). (round_if b w now).warned) due in
      sym same ∙ same_warning now w.warned (round w now).warned of_warning
  rounded_warned false due none = refl

-- ---- a turn

module _ (w : Watching) (t : Turn) where
  abbrev told_first : Watching
  told_first = (heard w t.now t.datagram).0

  abbrev due : Bool
  due = is_due told_first.roll t.now

  abbrev told_then : Watching
  told_then = round told_first t.now

  turned_replicas : (turned w t).replicas ≡ w.replicas
  turned_replicas =
      let one = heard_alike w t.now t.datagram in
      let two = by_alike told_then t.now told_then.seen in
      two.replicas ∙ (rounded_alike told_first t.now due).0 ∙ one.replicas

  turned_redraws : (turned w t).redraws ≡ w.redraws
  turned_redraws =
      let one = heard_alike w t.now t.datagram in
      let two = by_alike told_then t.now told_then.seen in
      two.redraws ∙ (rounded_alike told_first t.now due).1 ∙ one.redraws

  abbrev of_change : List ℕ
  of_change = change_lines w.replicas (heard w t.now t.datagram).1

  abbrev of_round : List ℕ
  of_round = round_news told_first t.now

  abbrev of_state : List ℕ
  of_state = state_lines w.replicas (tick told_then t.now).1

  module _ (none : news w t ≡ []) where
    no_change : (heard w t.now t.datagram).1 ≡ None
    no_change = no_change_line w.replicas (heard w t.now t.datagram).1 (of_round ++ of_state) none

    no_rest : of_round ++ of_state ≡ []
    no_rest = (none_both of_change (of_round ++ of_state) none).1

    no_round : of_round ≡ []
    no_round = (none_both of_round of_state no_rest).0

    no_state : (tick told_then t.now).1 ≡ None
    no_state = no_state_line w.replicas (tick told_then t.now).1 (none_both of_round of_state no_rest).1

    same_changed : (turned w t).changed ≡ w.changed
    same_changed =
        by_changed told_then t.now told_then.seen ∙ rounded_changed told_first t.now due ∙ heard_changed w t.now t.datagram no_change

    same_shown : (turned w t).shown ≡ w.shown
    same_shown =
        by_shown told_then t.now told_then.seen no_state ∙ rounded_shown told_first t.now due ∙ heard_shown w t.now t.datagram

    same_standings : standings (turned w t).roll ≡ standings w.roll
    same_standings =
        (by_alike told_then t.now told_then.seen).standings ∙ rounded_standings told_first t.now due refl no_round
        ∙ (heard_alike w t.now t.datagram).standings

    same_warned : (turned w t).warned ≡ w.warned
    same_warned =
        (by_alike told_then t.now told_then.seen).warned ∙ rounded_warned told_first t.now due refl no_round
        ∙ (heard_alike w t.now t.datagram).warned

    same_lines : last_lines (turned w t) ≡ last_lines w
    same_lines =
        let replicas = turned_replicas in
        let changed = same_changed in
        let shown = same_shown in
        let standing = same_standings in
        let warned = same_warned in
        rw (replicas, changed, shown, standing, warned) refl

    screen_stays : (text : List ℕ) → IsScreen text w → IsScreen (text ++ []) (turned w t)
    screen_stays text (inl h) =
        inl
        (record {
          silent = append-nil text ∙ h.silent;
          no_change = same_changed ∙ h.no_change;
          no_state = same_shown ∙ h.no_state;
          no_standing = same_standings ∙ h.no_standing;
          no_warning = same_warned ∙ h.no_warning;
        })
    screen_stays text (inr h) =
        let lines = sym same_lines in
        inr (record { before = h.before; over = append-nil text ∙ subst (λ (l : List ℕ). text ≡ h.before ++ (clearing ++ l)) lines h.over })

  screen_by : (text : List ℕ) → IsScreen text w → (xs : List ℕ) → news w t ≡ xs → IsScreen (text ++ drawn true (turned w t) xs) (turned w t)
  screen_by text h [] none = screen_stays none text h
  screen_by text h (x ∷ xs) e = inr (record { before = text; over = refl })

  screen_turn : (text : List ℕ) → w.redraws ≡ true → IsScreen text w → IsScreen (text ++ (after_turn w t).1) (after_turn w t).0
  screen_turn text redraws h =
      subst (λ (b : Bool). IsScreen (text ++ drawn b (turned w t) (news w t)) (turned w t)) (sym redraws) (screen_by text h (news w t) refl)

screen_turns : (text : List ℕ) (w : Watching) (ts : List Turn) → w.redraws ≡ true → IsScreen text w
    → IsScreen (text ++ (after_turns w ts).1) (after_turns w ts).0
screen_turns text w [] redraws h = rw append-nil h
screen_turns text w (t ∷ ts) redraws h =
    rw (← append_assoc)
    (screen_turns (text ++ (after_turn w t).1) (turned w t) ts (turned_redraws w t ∙ redraws) (screen_turn w t text redraws h))

pub screen_is_last : (n : ℕ) (roll : Rolled) (ts : List Turn) → standings roll ≡ []
    → IsScreen (after_turns (opening true n roll) ts).1 (after_turns (opening true n roll) ts).0
screen_is_last n roll ts none =
    screen_turns [] (opening true n roll) ts refl
    (inl (record { silent = refl; no_change = refl; no_state = refl; no_standing = none; no_warning = refl }))
