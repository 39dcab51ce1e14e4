-- The logs of views are sound, and the leaders' among them.
use Rattle.std.proofs.Common.{◌≡◌, ℕ, ◌+◌, ◌*◌, ◌<◌, Option, Some, None, refl, sym, ap, subst, ◌∙◌, inl, inr, arith, length, List, [], ◌∷◌}
use Rattle.std.specs.Prelude.{◌⊎◌, ◌-◌}
use Rattle.std.proofs.lemmas.Bool.{cases_eq, cases_lt}
use Rattle.nop_types.specs.declared.view.View.{View}
use Rattle.nop_types.specs.declared.replica_state.Phase.{Phase}
use Rattle.nop_types.specs.declared.replica_state.Phase.TheVariants.{Normal, Change}
use Rattle.nop_types.specs.declared.request.Entry.{Entry}
use Rattle.nop_types.specs.declared.request.Entry.TheVariants.{NoOp, Req}
use Rattle.nop_types.specs.Lists.{IsPrefixOf, slot_of}
use Rattle.nop_types.specs.Meaning.{Meaning}
use Rattle.nop_types.specs.Stamps.{WasStamped}
use Rattle.nop_types.specs.Views.{Below, leader_of}
use Rattle.slot_votes.specs.Agreement.{Agreement}
use Rattle.log_merge.specs.Starting.{Start}
use Rattle.started_views.specs.Past.{HadLog, LeaderHad, IsStart}
use Rattle.lemmas.proofs.Members.{Has-first, Has-rest, Has-none, Has-cases}
use Rattle.started_views.proofs.Quorums.{leader_within}
use Rattle.lemmas.proofs.Slots.{slot_of-within}
use Rattle.lemmas.proofs.Views.{cases_View, Below-then_at_most}
use Rattle.protocol.specs.Conf.{Conf, DidSay, Settled}
use Rattle.protocol.specs.Invariant.{GoodLog, Own, Inv}
use Rattle.protocol.specs.LocalState.{LocalState}
use Rattle.protocol.specs.Said.{Said, Word, Plain, Found, GapCommit, GapRep, ViewChange, StartView, SyncPrepare, SyncRep, SyncCommit, says}
use Rattle.protocol.specs.Truth.{Prepared}
use Rattle.protocol.proofs.Places.{normal_low}
use Rattle.lemmas.proofs.Options.{same_Some-at}
use Rattle.protocol_sync.proofs.Facts.{slot_in_prefix}
use Rattle.protocol_sync.specs.Sound.{EntryIsSound, LogsAreSound, WaitsAt, IsUnsettled, LeadersAreSound, NumbersAreSound}
use Rattle.protocol_sync.specs.Synced.{Sync}
use Rattle.protocol_sync.proofs.SoundPoints.{good_log_synchronised}

-- ---- whether a SyncPrepare of a length was sent

abbrev WasPrepared : List Said → View → ℕ → Type 0
WasPrepared said w k = (q : ℕ) × (z : ℕ) × (l : List Entry) × DidSay said q w (SyncPrepare z l) × (length l ≡ k)

abbrev NonePrepared : List Said → View → ℕ → Type 0
NonePrepared said w k = (q z : ℕ) (l : List Entry) → DidSay said q w (SyncPrepare z l) → length l ≡ k → ⊥

-- this word is one, or not
abbrev IsPrepare : ℕ → View → Word → View → ℕ → Type 0
IsPrepare s v x w k = ((z : ℕ) × (l : List Entry) × (says s v x ≡ says s w (SyncPrepare z l)) × (length l ≡ k))
    ⊎ ((q z : ℕ) (l : List Entry) → says q w (SyncPrepare z l) ≡ says s v x → length l ≡ k → ⊥)

is_prepare : (s : ℕ) (v : View) (x : Word) (w : View) (k : ℕ) → IsPrepare s v x w k
is_prepare s v (SyncPrepare z l) w k = elim (cases_View v w) [
  | inl e ↦ elim (cases_eq (length l) k) [
    | inl n ↦ inl (z, l, ap (λ (y : View). says s y (SyncPrepare z l)) e, n)
    | inr n ↦ inr (λ q i j h g. let word = ap (λ (y : Said). y.word) h in let same : j ≡ l = cc in n (ap length (sym same) ∙ g))
  ]
  | inr a ↦ inr (λ q i j h g. a (sym (ap (λ (y : Said). y.view) h)))
]
is_prepare s v Plain w k = inr (λ q z l h g. let same = ap (λ (y : Said). y.word) h in cc)
is_prepare s v (Found i r) w k = inr (λ q z l h g. let same = ap (λ (y : Said). y.word) h in cc)
is_prepare s v (GapCommit i) w k = inr (λ q z l h g. let same = ap (λ (y : Said). y.word) h in cc)
is_prepare s v (GapRep i) w k = inr (λ q z l h g. let same = ap (λ (y : Said). y.word) h in cc)
is_prepare s v (ViewChange u y o j) w k = inr (λ q z l h g. let same = ap (λ (y : Said). y.word) h in cc)
is_prepare s v (StartView y o j) w k = inr (λ q z l h g. let same = ap (λ (y : Said). y.word) h in cc)
is_prepare s v (SyncRep i) w k = inr (λ q z l h g. let same = ap (λ (y : Said). y.word) h in cc)
is_prepare s v (SyncCommit i) w k = inr (λ q z l h g. let same = ap (λ (y : Said). y.word) h in cc)

prepared_or_not : (said : List Said) (w : View) (k : ℕ) → WasPrepared said w k ⊎ NonePrepared said w k
prepared_or_not [] w k = inr (λ q z l h g. Has-none _ h)
prepared_or_not (x ∷ said) w k = elim (is_prepare x.sender x.view x.word w k) [
  | inl y ↦ inl (x.sender, y.0, y.1, Has-first (says x.sender w (SyncPrepare y.0 y.1)) x said (sym y.2), y.3)
  | inr other ↦ elim (prepared_or_not said w k) [
    | inl y ↦ inl (y.0, y.1, y.2, Has-rest (says y.0 w (SyncPrepare y.1 y.2)) x said y.3, y.4)
    | inr none ↦ inr (λ q z l h g. elim (Has-cases (says q w (SyncPrepare z l)) x said h) [
      | inl e ↦ other q z l e g
      | inr i ↦ none q z l i g
    ])
  ]
]

module _ {S : Type 0} (m : Meaning S) (f : ℕ) (c : Conf) (inv : Inv m f c) where
  -- ---- the logs of a view

  -- the start is the one that a log began with
  good_at : (r : ℕ) (w : View) (l : List Entry) (x : Start) (h : HadLog c.past r w l) → IsStart c.past w x → (inv.logs r w l h).start ≡ x
  good_at r w l x h is = let t = inv.logs r w l h in same_Some-at (c.past.start w) t.start x t.is_start is

  entry_sound : (r : ℕ) (w : View) (l : List Entry) (x : Start) (k : ℕ) (e : Entry) → HadLog c.past r w l → IsStart c.past w x
      → length x.log < k → slot_of l k ≡ Some e
      → EntryIsSound f c w (x.next + (k - length x.log - 1)) k e
  entry_sound r w l x k (Req q) h is above e =
      let t = inv.logs r w l h in
      let same = good_at r w l x h is in
      let low : length t.start.log < k = subst (λ (y : Start). length y.log < k) (sym same) above in
      subst (λ (y : Start). WasStamped c.stamps w.session (y.next + (k - length y.log - 1)) q) same (t.by_number k q low e)
  entry_sound r w l x k NoOp h is above e =
      let t = inv.logs r w l h in
      let low : length t.start.log < k = subst (λ (y : Start). length y.log < k) (sym (good_at r w l x h is)) above in
      let lead = inv.logs (leader_of w (2 * f + 1)) w t.lead t.leads in
      let led : length lead.start.log < k =
      subst (λ (y : Start). length y.log < k) (sym (good_at (leader_of w (2 * f + 1)) w t.lead x t.leads is)) above in
      lead.announced refl k led (t.noops k low e)

  pub logs_sound : LogsAreSound f c
  logs_sound = record {
    current = inv.current;
    begins = λ r w l x h is. subst (λ (y : Start). IsPrefixOf y.log l) (good_at r w l x h is) (inv.logs r w l h).begins;
    slots = entry_sound;
  }

  pub numbers_sound : NumbersAreSound f c
  numbers_sound r x l is =
      let place = (inv.own r l).place in
      let same : place.start ≡ x = same_Some-at (c.past.start (c.replicas r).last_normal) place.start x place.is_start is in
      let counted : (c.replicas r).next + length x.log ≡ x.next + length (c.replicas r).log =
      subst (λ (y : Start). (c.replicas r).next + length y.log ≡ y.next + length (c.replicas r).log) same place.counted in
      omega (arith, counted)

  -- ---- the log of the leader

  module _ (w : View) (l : List Entry) (x : Start) (k : ℕ) (led : LeaderHad f c.past w l) (is : IsStart c.past w x)
      (above : length x.log < k) (e : slot_of l k ≡ Some NoOp) where
    abbrev r : ℕ
    r = leader_of w (2 * f + 1)

    abbrev p : LocalState
    p = c.replicas r

    own : Own f c r p
    own = inv.own r (leader_within f w)

    good : GoodLog f c r w l
    good = inv.logs r w l led

    low : length good.start.log < k
    unfolding good
    low = subst (λ (y : Start). length y.log < k) (sym (good_at r w l x led is)) above

    abbrev Left : Type 0
    Left = WaitsAt p w k ⊎ Below w p.view

    -- in the view, where no gap waits, the last slot is settled
    in_view : k ≡ length l → w ≡ p.last_normal → p.status ≡ Normal → (g : Option Agreement) → p.gap ≡ g → Settled f c.said w k ⊎ Left
    in_view last same normal g gap =
        let view : p.view ≡ w = sym (own.place.normal normal) ∙ sym same in
        let mine : HadLog c.past r w p.log = subst (λ (y : View). HadLog c.past r y p.log) (sym same) (inv.current r (leader_within f w)) in
        let log : p.log ≡ l = same_Some-at (c.past.log r w) p.log l mine led in
        at g gap view log
      where
        at : (g : Option Agreement) → p.gap ≡ g → p.view ≡ w → p.log ≡ l → Settled f c.said w k ⊎ Left
        at (Some g) gap view log =
            let slot = (own.gap.waits g gap).last in
            inr (inl (view, g, gap, slot ∙ ap length log ∙ sym last))
        at None gap view log =
            let leads : r ≡ leader_of p.view (2 * f + 1) = ap (λ (y : View). leader_of y (2 * f + 1)) (sym view) in
            let base : p.base ≡ length own.place.start.log = own.place.base (ap (λ (y : View). leader_of y (2 * f + 1)) same) in
            let start : own.place.start ≡ x =
            same_Some-at (c.past.start w) own.place.start x (subst (λ (y : View). IsStart c.past y own.place.start)
            (sym same) own.place.is_start) is in
            let lens : length own.place.start.log ≡ length x.log = ap (λ (y : Start). length y.log) start in
            let len : length p.log ≡ k = ap length log ∙ sym last in
            let noop : slot_of p.log (length p.log) ≡ Some NoOp = subst (λ (i : ℕ). slot_of p.log i ≡ Some NoOp) (sym len)
            (subst (λ (y : List Entry). slot_of y k ≡ Some NoOp) (sym log) e) in
            let there : Settled f c.said p.view (length p.log) =
            own.gap.last leads normal gap (omega (arith, base, lens, len, above)) noop in
            inl (subst (λ (y : View). Settled f c.said y k) view (subst (Settled f c.said p.view) len there))

    -- the leader is in the view or has left it
    at_last : k ≡ length l → Settled f c.said w k ⊎ Left
    at_last last = elim (cases_View w p.last_normal) [
      | inl same ↦ here p.status refl same
      | inr apart ↦ inr (inr (Below-then_at_most w p.last_normal p.view (record { at_most = inv.reached r w l led; apart = apart })
          (normal_low m f c r inv (leader_within f w))))
    ]
      where
        here : (s : Phase) → p.status ≡ s → w ≡ p.last_normal → Settled f c.said w k ⊎ Left
        here Normal normal same = in_view last same normal p.gap refl
        here Change change same = inr (inr (subst (λ (y : View). Below y p.view) (sym same) (own.place.change change)))

    -- a NO-OP in the last slot of a log that was sent is settled
    prepared_settled : WasPrepared c.said w k → Settled f c.said w k
    prepared_settled (q, z, j, h, len) =
        let t : Prepared f c q w j = inv.said (says q w (SyncPrepare z j)) h in
        let lead : t.lead ≡ l = same_Some-at (c.past.log r w) t.lead l t.leads led in
        let start : t.start ≡ x = same_Some-at (c.past.start w) t.start x t.is_start is in
        let lens : length t.start.log ≡ length x.log = ap (λ (y : Start). length y.log) start in
        let begins : IsPrefixOf j l = subst (IsPrefixOf j) lead t.begins in
        let noop : slot_of j (length j) ≡ Some NoOp = slot_in_prefix j l (length j) NoOp begins (omega (arith, len, above)) (omega arith)
        (subst (λ (i : ℕ). slot_of l i ≡ Some NoOp) (sym len) e) in
        subst (Settled f c.said w) len (t.settled (omega (arith, lens, len, above)) noop)

    noop_sound : Settled f c.said w k ⊎ IsUnsettled f c w l k
    noop_sound = elim (cases_lt k (length l)) [
      | inl under ↦ inl (good.settled refl k low under e)
      | inr not_under ↦
          let last : k ≡ length l = (let h = slot_of-within l k NoOp e in omega (arith, h.1, not_under)) in
          elim (prepared_or_not c.said w k) [
            | inl there ↦ inl (prepared_settled there)
            | inr none ↦ elim (at_last last) [ inl s ↦ inl s | inr left ↦ inr (record { last = last; unprepared = none; waits = left }) ]
          ]
    ]

  pub leaders_sound : Sync f c → LeadersAreSound f c
  leaders_sound sync = record {
    found = λ q w k r h. inv.said (says q w (Found k r)) h;
    gap_commits = λ q w k h. inv.said (says q w (GapCommit k)) h;
    prepares = λ q w z l h.
        let t : Prepared f c q w l = inv.said (says q w (SyncPrepare z l)) h in
        record {
          sender = t.sender;
          lead = t.lead;
          leads = t.leads;
          begins = t.begins;
          point = λ one. good_log_synchronised m f c inv sync w z l t.lead one t.leads t.begins (sync.points.prepares q w z l h);
        };
    noops = noop_sound;
  }
