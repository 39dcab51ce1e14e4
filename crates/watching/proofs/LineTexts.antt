-- Lines are read back as what they show.
use Rattle.std.proofs.Common.{◌≡◌, ℕ, ◌/◌, ◌%◌, ◌^◌, ◌<◌, ◌≤◌, List, [], ◌∷◌, ◌++◌, true, Some, refl, sym, ap, ◌∙◌, arith, codes}
use Rattle.std.proofs.lemmas.List.{append_cancel_right}
use Rattle.std.specs.List.{flat_map, list_all}
use Rattle.line_fields.specs.Fields.{fields}
use Rattle.line_fields.proofs.FieldTexts.{Small, is_mark, AllMarked, actor_marked, decimal_marked, line_fields, number_again}
use Rattle.nop_types.specs.Configuration.{Configuration}
use Rattle.nop_types.specs.Sessions.{home}
use Rattle.nop_types.specs.Views.{leader_of}
use Rattle.nop_types.specs.declared.output.Actor.TheVariants.{Controller, Replica}
use Rattle.nop_types.specs.declared.view.View.{View}
use Rattle.transcript_text.specs.LineText.{after_space}
use Rattle.transcript_text.specs.Transcript.{actor_text}
use Rattle.watching.specs.Laws.{StateFits, ChangeFits}
use Rattle.watching.specs.Lines.{state_line, change_line, state_fields, change_fields, state_in, change_in}
use Rattle.watching.specs.declared.lines.Change.{Change}
use Rattle.watching.specs.declared.lines.State.{State}

-- any greatest numbers of actors
abbrev most : Configuration
most = record { replicas = 7; sequencers = 4; clients = 16; controllers = 4; observers = 4 }

small : Small most
small = record { replicas = omega arith; sequencers = omega arith; clients = omega arith; controllers = omega arith; observers = omega arith }

module _ (n : ℕ) (some : 1 ≤ n) (few : n ≤ 7) where
  leader_marked : (v : View) → list_all is_mark (actor_text (Replica (leader_of v n))) ≡ true
  leader_marked v =
      let low : v.leader % n < 7 = omega (arith, some, few) in
      actor_marked most small (Replica (v.leader % n)) low

  controller_marked : (session : ℕ) → list_all is_mark (actor_text (Controller (home session))) ≡ true
  controller_marked session =
      let low : session / 2 ^ 32 % 4 < 4 = omega arith in
      actor_marked most small (Controller (home session)) low

  state_marked : (s : State) → StateFits s → AllMarked (state_fields n s)
  state_marked s h = (
    decimal_marked s.view.leader h.leader,
    (
      decimal_marked s.view.session h.session,
      (
        refl,
        (
          leader_marked s.view,
          (
            refl,
            (
              controller_marked s.view.session,
              (refl, (decimal_marked s.synced h.synced, (refl, (decimal_marked s.rate h.rate, (refl, (decimal_marked s.age h.age, tt)))))),
            ),
          ),
        ),
      ),
    ),
  )

  change_marked : (c : Change) → ChangeFits c → AllMarked (change_fields n c)
  change_marked c h = (
    decimal_marked c.view.leader h.leader,
    (
      decimal_marked c.view.session h.session,
      (refl, (leader_marked c.view, (refl, (controller_marked c.view.session, (refl, (decimal_marked c.at h.at, tt)))))),
    ),
  )

  state_read : (s : State) → StateFits s → state_in (codes "view" ∷ state_fields n s) ≡ Some s
  state_read s h =
      rw (number_again s.view.leader h.leader, number_again s.view.session h.session, number_again s.synced h.synced)
      (rw (number_again s.rate h.rate, number_again s.age h.age) refl)

  change_read : (c : Change) → ChangeFits c → change_in (codes "view" ∷ change_fields n c) ≡ Some c
  change_read c h =
      rw (number_again c.view.leader h.leader, number_again c.view.session h.session, number_again c.at h.at) refl

  pub state_again : (s : State) (line : List ℕ) → StateFits s → state_line n s ≡ line ++ 10 ∷ [] → state_in (fields line) ≡ Some s
  unfolding state_line
  state_again s line h is =
      let xs = state_fields n s in
      let front : List ℕ = codes "view" ++ flat_map after_space xs in
      let same : front ≡ line = append_cancel_right front line (10 ∷ []) is in
      ap (λ (l : List ℕ). state_in (fields l)) (sym same)
      ∙ ap state_in (line_fields (codes "view") xs refl (state_marked s h))
      ∙ state_read s h

  pub change_again : (c : Change) (line : List ℕ) → ChangeFits c → change_line n c ≡ line ++ 10 ∷ [] → change_in (fields line) ≡ Some c
  unfolding change_line
  change_again c line h is =
      let xs = change_fields n c in
      let front : List ℕ = codes "view" ++ flat_map after_space xs in
      let same : front ≡ line = append_cancel_right front line (10 ∷ []) is in
      ap (λ (l : List ℕ). change_in (fields l)) (sym same)
      ∙ ap change_in (line_fields (codes "view") xs refl (change_marked c h))
      ∙ change_read c h
