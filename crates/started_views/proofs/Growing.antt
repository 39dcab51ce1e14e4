-- A past that goes on: each step makes it do so, and what is fixed and anchored stays.
use Rattle.std.proofs.Common.{◌≡◌, ℕ, ◌+◌, ◌*◌, ◌≤◌, List, length, Option, Some, None, refl, sym, ap, subst, ◌∙◌, arith, inl, inr}
use Rattle.std.proofs.lemmas.Option.{same_Some}
use Rattle.nop_types.specs.declared.view.View.{View}
use Rattle.nop_types.specs.declared.request.Entry.{Entry}
use Rattle.nop_types.specs.declared.request.Entry.TheVariants.{NoOp}
use Rattle.nop_types.specs.Lists.{IsPrefixOf, slot_of}
use Rattle.nop_types.specs.Views.{leader_of}
use Rattle.lemmas.proofs.Prefixes.{length-prefix, IsPrefixOf-refl, IsPrefixOf-trans}
use Rattle.lemmas.proofs.Slots.{slot_of-within, slot_of-some, slot_of-prefix}
use Rattle.log_merge.specs.Starting.{Start}
use Rattle.started_views.specs.Logs.{Toward}
use Rattle.started_views.specs.Past.{Entered, Past, Standing, HadLog, LeaderHad, IsStart, IsStarted, note}
use Rattle.started_views.specs.Settled.{Reached, HadNoOp, Fixed, Anchored}
use Rattle.started_views.specs.Growing.{WentOn, Grows, LogGoesOn, First, Leading, Following, GoesOn}
use Rattle.started_views.proofs.Logs.{toward_refl, toward_trans, toward_longer}
use Rattle.started_views.proofs.Quorums.{quorum_weaker}
use Rattle.started_views.proofs.Past.{note_log_here, note_log_places, note_entry_places, note_start_places}

-- ---- in order

pub grows_refl : (f : ℕ) (past : Past) → Grows f past past
grows_refl f past = record {
  starts = λ w x is. is;
  entries = λ r v e is. is;
  leaders = λ w m lead. (m, lead, IsPrefixOf-refl m);
  logs = λ r w l had. (l, had, inl refl);
}

went_on_trans : (f : ℕ) (b c : Past) (w : View) (l k j : List Entry) → Grows f b c → WentOn f b w l k → WentOn f c w k j → WentOn f c w l j
went_on_trans f b c w l k j g (inl e) next = subst (λ t. WentOn f c w t j) (sym e) next
went_on_trans f b c w l k j g (inr (m, lead, toward)) next = at (g.leaders w m lead) next
  where
    at : ((n : List Entry) × LeaderHad f c w n × IsPrefixOf m n) → WentOn f c w k j → WentOn f c w l j
    at (n, leads, longer) (inl e) = inr (n, leads, toward_trans m n l k j longer toward (subst (λ t. Toward n k t) e (toward_refl n k)))
    at (n, leads, longer) (inr (o, led, more)) =
        let one : o ≡ n = same_Some o n (sym led ∙ leads) in
        inr (n, leads, toward_trans m n l k j longer toward (subst (λ t. Toward t k j) one more))

pub grows_trans : (f : ℕ) (a b c : Past) → Grows f a b → Grows f b c → Grows f a c
grows_trans f a b c h g = record {
  starts = λ w x is. g.starts w x (h.starts w x is);
  entries = λ r v e is. g.entries r v e (h.entries r v e is);
  leaders = λ w m lead.
      let n = h.leaders w m lead in
      let o = g.leaders w n.0 n.1 in
      (o.0, o.1, IsPrefixOf-trans m n.0 o.0 n.2 o.2);
  logs = λ r w l had.
      let k = h.logs r w l had in
      let j = g.logs r w k.0 k.1 in
      (j.0, j.1, went_on_trans f b c w l k.0 j.0 g k.2 j.2);
}

-- ---- a step

no_some : {A : Type 0} (o : Option A) (x : A) → o ≡ None → o ≡ Some x → ⊥
no_some o x e g = cc

module _ (f : ℕ) (past : Past) (r : ℕ) (old new : Standing) (h : GoesOn f past r old new) where
  abbrev noted : Past
  noted = note f past r old new

  starts : (w : View) (x : Start) → IsStart past w x → IsStart noted w x
  starts w x is =
      elim (note_start_places f past r old new w) [
        | inl t ↦ elim (h.start t.0.leads) [
          | inl same ↦ absurd (t.0.adopts same)
          | inr none ↦ absurd (no_some (past.start new.last_normal) x none (subst (λ u. IsStart past u x) t.1 is))
        ]
        | inr e ↦ e ∙ is
      ]

  entries : (q : ℕ) (v : View) (e : Entered) → past.entry q v ≡ Some e → noted.entry q v ≡ Some e
  entries q v e is =
      elim (note_entry_places f past r old new q v) [
        | inl t ↦ elim h.entry [
          | inl same ↦ absurd (t.0 same)
          | inr none ↦
              absurd (no_some (past.entry r new.view) e none
              (subst (λ u. past.entry r u ≡ Some e) t.2 (subst (λ i. past.entry i v ≡ Some e) t.1 is)))
        ]
        | inr g ↦ g ∙ is
      ]

  -- at the place that is noted
  had_here : (q : ℕ) (w : View) (l : List Entry) → q ≡ r → w ≡ new.last_normal → HadLog past q w l → HadLog past r new.last_normal l
  had_here q w l e d had = subst (λ u. HadLog past r u l) d (subst (λ i. HadLog past i w l) e had)

  later_here : (q : ℕ) (w : View) → q ≡ r → w ≡ new.last_normal → HadLog noted q w new.log
  later_here q w e d =
      subst (λ i. HadLog noted i w new.log) (sym e) (subst (λ u. HadLog noted r u new.log) (sym d) (note_log_here f past r old new))

  leads_here : (w : View) → w ≡ new.last_normal → r ≡ leader_of new.last_normal (2 * f + 1) → LeaderHad f noted w new.log
  leads_here w d e = later_here (leader_of w (2 * f + 1)) w (ap (λ (u : View). leader_of u (2 * f + 1)) d ∙ sym e) d

  -- the log of a leader that is not r stays
  leads_still : (w : View) (m : List Entry) → w ≡ new.last_normal → (r ≡ leader_of new.last_normal (2 * f + 1) → ⊥)
      → LeaderHad f past new.last_normal m → LeaderHad f noted w m
  leads_still w m d apart lead =
      subst (λ u. LeaderHad f noted u m) (sym d)
      (elim (note_log_places f past r old new (leader_of new.last_normal (2 * f + 1)) new.last_normal) [
        | inl t ↦ absurd (apart (sym t.0))
        | inr e ↦ e ∙ lead
      ])

  leaders : (w : View) (m : List Entry) → LeaderHad f past w m → (n : List Entry) × LeaderHad f noted w n × IsPrefixOf m n
  leaders w m lead =
      elim (note_log_places f past r old new (leader_of w (2 * f + 1)) w) [
        | inl t ↦ at t.0 t.1 (had_here (leader_of w (2 * f + 1)) w m t.0 t.1 lead) h.log
        | inr e ↦ (m, e ∙ lead, IsPrefixOf-refl m)
      ]
    where
      at : leader_of w (2 * f + 1) ≡ r → w ≡ new.last_normal → HadLog past r new.last_normal m → LogGoesOn f past r new.last_normal new.log
          → (n : List Entry) × LeaderHad f noted w n × IsPrefixOf m n
      at e d had (First none) = absurd (no_some (past.log r new.last_normal) m none had)
      at e d had (Leading l leads mine longer) =
          let one : l ≡ m = same_Some l m (sym mine ∙ had) in
          (new.log, leads_here w d leads, subst (λ t. IsPrefixOf t new.log) one longer)
      at e d had (Following l n apart mine led toward) = absurd (apart (sym e ∙ ap (λ (u : View). leader_of u (2 * f + 1)) d))

  logs : (q : ℕ) (w : View) (l : List Entry) → HadLog past q w l → (k : List Entry) × HadLog noted q w k × WentOn f noted w l k
  logs q w l had =
      elim (note_log_places f past r old new q w) [
        | inl t ↦ (new.log, later_here q w t.0 t.1, at t.1 (had_here q w l t.0 t.1 had) h.log)
        | inr e ↦ (l, e ∙ had, inl refl)
      ]
    where
      at : w ≡ new.last_normal → HadLog past r new.last_normal l → LogGoesOn f past r new.last_normal new.log → WentOn f noted w l new.log
      at d here (First none) = absurd (no_some (past.log r new.last_normal) l none here)
      at d here (Leading k leads mine longer) =
          let one : k ≡ l = same_Some k l (sym mine ∙ here) in
          inr (new.log, leads_here w d leads, toward_longer new.log l new.log (subst (λ t. IsPrefixOf t new.log) one longer))
      at d here (Following k m apart mine led toward) =
          let one : k ≡ l = same_Some k l (sym mine ∙ here) in
          inr (m, leads_still w m d apart led, subst (λ t. Toward m t new.log) one toward)

  pub note_grows : Grows f past (note f past r old new)
  note_grows = record { starts = starts; entries = entries; leaders = leaders; logs = logs }

-- ---- what stays

pub reached_stays : (f : ℕ) (past later : Past) → Grows f past later → (w : View) (s r : ℕ) → Reached past w s r → Reached later w s r
reached_stays f past later g w s r (l, had, long) =
    let k = g.logs r w l had in
    (k.0, k.1, at k.0 k.2)
  where
    at : (k : List Entry) → WentOn f later w l k → s ≤ length k
    at k (inl e) = subst (λ t. s ≤ length t) e long
    at k (inr (m, lead, toward)) = omega (arith, long, toward.longer)

-- a NO-OP that the leader has too
pub noop_stays : (f : ℕ) (past later : Past) → Grows f past later → (w : View) (k : ℕ) (n : List Entry) → LeaderHad f later w n
    → slot_of n k ≡ Some NoOp → (r : ℕ) → HadNoOp past w k r → HadNoOp later w k r
noop_stays f past later g w k n leads noop r (l, had, e) =
    let j = g.logs r w l had in
    (j.0, j.1, at j.0 j.2)
  where
    at : (j : List Entry) → WentOn f later w l j → slot_of j k ≡ Some NoOp
    at j (inl same) = subst (λ t. slot_of t k ≡ Some NoOp) same e
    at j (inr (m, led, toward)) =
        let one : n ≡ m = same_Some n m (sym leads ∙ led) in
        let there : slot_of m k ≡ Some NoOp = subst (λ t. slot_of t k ≡ Some NoOp) one noop in
        elim (toward.slots k NoOp e) [ inl g ↦ g | inr (y, its, new) ↦ new ∙ sym its ∙ there ]

pub fixed_stays : (f : ℕ) (past later : Past) (w : View) (m : List Entry) (s : ℕ) → Grows f past later → IsStarted past w
    → Fixed f past w m s → (n : List Entry) × IsPrefixOf m n × Fixed f later w n s
fixed_stays f past later w m s g started fixed =
    let n = g.leaders w m fixed.leads in (
      n.0,
      n.2,
      record {
        leads = n.1;
        within = omega (arith, fixed.within, length-prefix m n.0 n.2);
        reached = quorum_weaker f (Reached past w s) (Reached later w s) (λ r h. reached_stays f past later g w s r h) fixed.reached;
        noops = λ k x is above le e.
            let one : x ≡ started.0 = same_Some x started.0 (sym is ∙ g.starts w started.0 started.1) in
            let was : IsStart past w x = subst (λ t. IsStart past w t) (sym one) started.1 in
            quorum_weaker f (HadNoOp past w k) (HadNoOp later w k) (λ r h. noop_stays f past later g w k n.0 n.1 e r h)
            (fixed.noops k x was above le (back n.0 n.2 k le e));
      },
    )
  where
    -- what the longer log has in the prefix, the shorter has
    back : (n : List Entry) → IsPrefixOf m n → (k : ℕ) → k ≤ s → slot_of n k ≡ Some NoOp → slot_of m k ≡ Some NoOp
    back n longer k le e =
        let y = slot_of-some m k (slot_of-within n k NoOp e).0 (omega (arith, le, fixed.within)) in
        let one : y.0 ≡ NoOp = same_Some y.0 NoOp (sym (slot_of-prefix m n k y.0 longer y.1) ∙ e) in
        y.1 ∙ ap (λ (t : Entry). Some t) one

pub anchored_stays : (f : ℕ) (past later : Past) (u : View) (s : ℕ) → Grows f past later
    → ((w : View) (m : List Entry) → LeaderHad f past w m → IsStarted past w) → Anchored f past u s → Anchored f later u s
anchored_stays f past later u s g started (inl e) = inl e
anchored_stays f past later u s g started (inr (w, low, m, fixed)) =
    let n = fixed_stays f past later w m s g (started w m fixed.leads) fixed in
    inr (w, low, n.0, n.2)

-- fewer slots of a fixed prefix are fixed
pub fixed_less : (f : ℕ) (past : Past) (w : View) (m : List Entry) (s t : ℕ) → t ≤ s → Fixed f past w m s → Fixed f past w m t
fixed_less f past w m s t le fixed = record {
  leads = fixed.leads;
  within = omega (arith, le, fixed.within);
  reached = quorum_weaker f (Reached past w s) (Reached past w t) (λ r h. (h.0, h.1, omega (arith, le, h.2))) fixed.reached;
  noops = λ k x is above low e. fixed.noops k x is above (omega (arith, low, le)) e;
}
