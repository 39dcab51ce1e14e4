-- What is looked up in a past to which a step was added.
use Rattle.std.proofs.Common.{◌≡◌, ℕ, ◌+◌, ◌*◌, Bool, true, false, cond, not, List, [], Option, Some, None, refl, inl, inr}
use Rattle.std.specs.Prelude.{◌⊎◌, ◌==◌, ◌&&◌}
use Rattle.std.proofs.lemmas.Bool.{eq-eqb, eqb-true, and_parts}
use Rattle.nop_types.specs.declared.view.View.{View}
use Rattle.nop_types.specs.declared.request.Entry.{Entry}
use Rattle.nop_types.specs.Views.{first_view, is_view, leader_of}
use Rattle.lemmas.proofs.Bools.{not-both}
use Rattle.lemmas.proofs.Views.{is_view-true, is_view-same, is_view-apart}
use Rattle.log_merge.specs.Starting.{Start}
use Rattle.started_views.specs.Past.{Entered, Past, Standing, HadLog, IsStart, first_past, is_of, with_log, with_entry, with_start}
use Rattle.started_views.specs.Past.{entered_with, started_with, note}

-- ---- tests

pub is_of_true : (q r : ℕ) (w v : View) → is_of q w r v ≡ true → (q ≡ r) × (w ≡ v)
is_of_true q r w v e = let h = and_parts (q == r) (is_view w v) e in (eqb-true q r h.0, is_view-true w v h.1)

pub is_of_same : (r : ℕ) (v : View) → is_of r v r v ≡ true
is_of_same r v = rw (eq-eqb r r refl, is_view-same v v refl) refl

-- where the test fails, or its place is another, what was there is looked up
looked_up : {A : Type 0} (b : Bool) (x y : A) (o : Option A) → cond b (Some x) o ≡ Some y → ((b ≡ true) × (y ≡ x)) ⊎ (o ≡ Some y)
looked_up true x y o e = inl (refl, cc)
looked_up false x y o e = inr e

-- ---- logs

pub log_here : (p : Past) (r : ℕ) (v : View) (l : List Entry) → (with_log r v l p).log r v ≡ Some l
log_here p r v l = rw (is_of_same r v) refl

pub log_places : (p : Past) (r : ℕ) (v : View) (l : List Entry) (q : ℕ) (w : View)
    → ((q ≡ r) × (w ≡ v)) ⊎ ((with_log r v l p).log q w ≡ p.log q w)
log_places p r v l q w = at (is_of q w r v) refl
  where
    at : (b : Bool) → is_of q w r v ≡ b → ((q ≡ r) × (w ≡ v)) ⊎ (cond b (Some l) (p.log q w) ≡ p.log q w)
    at true e = inl (is_of_true q r w v e)
    at false e = inr refl

pub log_cases : (p : Past) (r : ℕ) (v : View) (l : List Entry) (q : ℕ) (w : View) (k : List Entry) → (with_log r v l p).log q w ≡ Some k
    → ((q ≡ r) × (w ≡ v) × (k ≡ l)) ⊎ (p.log q w ≡ Some k)
log_cases p r v l q w k e =
    elim (looked_up (is_of q w r v) l k (p.log q w) e) [
      | inl h ↦ let g = is_of_true q r w v h.0 in inl (g.0, g.1, h.1)
      | inr h ↦ inr h
    ]

-- ---- entries

pub entry_here : (b : Bool) (r : ℕ) (v : View) (o : Entered) (p : Past) → b ≡ true → (with_entry b r v o p).entry r v ≡ Some o
entry_here b r v o p e = rw (e, is_of_same r v) refl

pub entry_places : (b : Bool) (r : ℕ) (v : View) (o : Entered) (p : Past) (q : ℕ) (w : View)
    → ((b ≡ true) × (q ≡ r) × (w ≡ v)) ⊎ ((with_entry b r v o p).entry q w ≡ p.entry q w)
entry_places b r v o p q w = at (b && is_of q w r v) refl
  where
    at : (t : Bool) → (b && is_of q w r v) ≡ t → ((b ≡ true) × (q ≡ r) × (w ≡ v)) ⊎ (cond t (Some o) (p.entry q w) ≡ p.entry q w)
    at true e = let t = and_parts b (is_of q w r v) e in let g = is_of_true q r w v t.1 in inl (t.0, g.0, g.1)
    at false e = inr refl

pub entry_cases : (b : Bool) (r : ℕ) (v : View) (o : Entered) (p : Past) (q : ℕ) (w : View) (k : Entered)
    → (with_entry b r v o p).entry q w ≡ Some k → ((b ≡ true) × (q ≡ r) × (w ≡ v) × (k ≡ o)) ⊎ (p.entry q w ≡ Some k)
entry_cases b r v o p q w k e =
    elim (looked_up (b && is_of q w r v) o k (p.entry q w) e) [
      | inl h ↦ let t = and_parts b (is_of q w r v) h.0 in let g = is_of_true q r w v t.1 in inl (t.0, g.0, g.1, h.1)
      | inr h ↦ inr h
    ]

-- ---- starts

pub start_here : (b : Bool) (v : View) (x : Start) (p : Past) → b ≡ true → (with_start b v x p).start v ≡ Some x
start_here b v x p e = rw (e, is_view-same v v refl) refl

pub start_places : (b : Bool) (v : View) (x : Start) (p : Past) (w : View)
    → ((b ≡ true) × (w ≡ v)) ⊎ ((with_start b v x p).start w ≡ p.start w)
start_places b v x p w = at (b && is_view w v) refl
  where
    at : (t : Bool) → (b && is_view w v) ≡ t → ((b ≡ true) × (w ≡ v)) ⊎ (cond t (Some x) (p.start w) ≡ p.start w)
    at true e = let t = and_parts b (is_view w v) e in inl (t.0, is_view-true w v t.1)
    at false e = inr refl

pub start_cases : (b : Bool) (v : View) (x : Start) (p : Past) (w : View) (y : Start) → (with_start b v x p).start w ≡ Some y
    → ((b ≡ true) × (w ≡ v) × (y ≡ x)) ⊎ (p.start w ≡ Some y)
start_cases b v x p w y e =
    elim (looked_up (b && is_view w v) x y (p.start w) e) [
      | inl h ↦ let t = and_parts b (is_view w v) h.0 in inl (t.0, is_view-true w v t.1, h.1)
      | inr h ↦ inr h
    ]

-- ---- a whole step

-- the view of new was entered, and it was adopted by its leader
abbrev pub Enters : Standing → Standing → Type 0
Enters old new = new.view ≡ old.view → ⊥

pub record Starts (f r : ℕ) (old new : Standing) : Type 0 where
  pub adopts : new.last_normal ≡ old.last_normal → ⊥
  pub leads : r ≡ leader_of new.last_normal (2 * f + 1)

apart_from : (a b : View) → not (is_view a b) ≡ true → a ≡ b → ⊥
apart_from a b e g = not-both (is_view a b) e (is_view-same a b g)

apart_test : (a b : View) → (a ≡ b → ⊥) → not (is_view a b) ≡ true
apart_test a b d = rw (is_view-apart a b d) refl

starts_from : (f r : ℕ) (old new : Standing)
    → (not (is_view new.last_normal old.last_normal) && (r == leader_of new.last_normal (2 * f + 1))) ≡ true → Starts f r old new
starts_from f r old new e =
    let h = and_parts (not (is_view new.last_normal old.last_normal)) (r == leader_of new.last_normal (2 * f + 1)) e in
    record { adopts = apart_from new.last_normal old.last_normal h.0; leads = eqb-true r (leader_of new.last_normal (2 * f + 1)) h.1 }

starts_test : (f r : ℕ) (old new : Standing) → Starts f r old new
    → (not (is_view new.last_normal old.last_normal) && (r == leader_of new.last_normal (2 * f + 1))) ≡ true
starts_test f r old new h =
    rw (apart_test new.last_normal old.last_normal h.adopts, eq-eqb r (leader_of new.last_normal (2 * f + 1)) h.leads) refl

module _ (f : ℕ) (p : Past) (r : ℕ) (old new : Standing) where
  -- whether a start is noted, and what has been noted before it
  abbrev starts : Bool
  starts = not (is_view new.last_normal old.last_normal) && (r == leader_of new.last_normal (2 * f + 1))

  abbrev with_entered : Past
  with_entered = with_entry (not (is_view new.view old.view)) r new.view (entered_with old) (with_log r new.last_normal new.log p)

  pub note_log_here : (note f p r old new).log r new.last_normal ≡ Some new.log
  note_log_here = log_here p r new.last_normal new.log

  pub note_log_places : (q : ℕ) (w : View) → ((q ≡ r) × (w ≡ new.last_normal)) ⊎ ((note f p r old new).log q w ≡ p.log q w)
  note_log_places q w = log_places p r new.last_normal new.log q w

  pub note_log_cases : (q : ℕ) (w : View) (k : List Entry) → HadLog (note f p r old new) q w k
      → ((q ≡ r) × (w ≡ new.last_normal) × (k ≡ new.log)) ⊎ HadLog p q w k
  note_log_cases q w k e = log_cases p r new.last_normal new.log q w k e

  pub note_log_other : (q : ℕ) (w : View) → (q ≡ r → ⊥) → (note f p r old new).log q w ≡ p.log q w
  note_log_other q w d = elim (note_log_places q w) [ inl h ↦ absurd (d h.0) | inr e ↦ e ]

  pub note_log_left : (q : ℕ) (w : View) → (w ≡ new.last_normal → ⊥) → (note f p r old new).log q w ≡ p.log q w
  note_log_left q w d = elim (note_log_places q w) [ inl h ↦ absurd (d h.1) | inr e ↦ e ]

  pub note_entry_here : Enters old new → (note f p r old new).entry r new.view ≡ Some (entered_with old)
  note_entry_here d =
      entry_here (not (is_view new.view old.view)) r new.view (entered_with old) (with_log r new.last_normal new.log p)
      (apart_test new.view old.view d)

  pub note_entry_places : (q : ℕ) (w : View) → (Enters old new × (q ≡ r) × (w ≡ new.view)) ⊎ ((note f p r old new).entry q w ≡ p.entry q w)
  note_entry_places q w =
      elim (entry_places (not (is_view new.view old.view)) r new.view (entered_with old) (with_log r new.last_normal new.log p) q w) [
        | inl h ↦ inl (apart_from new.view old.view h.0, h.1, h.2)
        | inr e ↦ inr e
      ]

  pub note_entry_cases : (q : ℕ) (w : View) (k : Entered) → (note f p r old new).entry q w ≡ Some k
      → (Enters old new × (q ≡ r) × (w ≡ new.view) × (k ≡ entered_with old)) ⊎ (p.entry q w ≡ Some k)
  note_entry_cases q w k e =
      elim (entry_cases (not (is_view new.view old.view)) r new.view (entered_with old) (with_log r new.last_normal new.log p) q w k e) [
        | inl h ↦ inl (apart_from new.view old.view h.0, h.1, h.2, h.3)
        | inr g ↦ inr g
      ]

  pub note_entry_same : (q : ℕ) (w : View) → new.view ≡ old.view → (note f p r old new).entry q w ≡ p.entry q w
  note_entry_same q w e = elim (note_entry_places q w) [ inl h ↦ absurd (h.0 e) | inr g ↦ g ]

  pub note_start_here : Starts f r old new → (note f p r old new).start new.last_normal ≡ Some (started_with new)
  note_start_here h =
      start_here starts new.last_normal (started_with new) with_entered (starts_test f r old new h)

  pub note_start_places : (w : View) → (Starts f r old new × (w ≡ new.last_normal)) ⊎ ((note f p r old new).start w ≡ p.start w)
  note_start_places w =
      elim (start_places starts new.last_normal (started_with new) with_entered w) [
        | inl h ↦ inl (starts_from f r old new h.0, h.1)
        | inr e ↦ inr e
      ]

  pub note_start_cases : (w : View) (y : Start) → IsStart (note f p r old new) w y
      → (Starts f r old new × (w ≡ new.last_normal) × (y ≡ started_with new)) ⊎ IsStart p w y
  note_start_cases w y e =
      elim (start_cases starts new.last_normal (started_with new) with_entered w y e) [
        | inl h ↦ inl (starts_from f r old new h.0, h.1, h.2)
        | inr g ↦ inr g
      ]

  pub note_start_same : (w : View) → new.last_normal ≡ old.last_normal → (note f p r old new).start w ≡ p.start w
  note_start_same w e = elim (note_start_places w) [ inl h ↦ absurd (h.0.adopts e) | inr g ↦ g ]

  pub note_start_follower : (w : View) → (r ≡ leader_of new.last_normal (2 * f + 1) → ⊥) → (note f p r old new).start w ≡ p.start w
  note_start_follower w d = elim (note_start_places w) [ inl h ↦ absurd (d h.0.leads) | inr g ↦ g ]

-- ---- the opening

first_is : {A : Type 0} (b : Bool) (x y : A) → cond b (Some x) None ≡ Some y → (b ≡ true) × (y ≡ x)
first_is true x y e = (refl, cc)
first_is false x y e = absurd cc

pub first_log : (r : ℕ) (w : View) (l : List Entry) → HadLog first_past r w l → (w ≡ first_view) × (l ≡ [])
first_log r w l e = let h = first_is (is_view w first_view) [] l e in (is_view-true w first_view h.0, h.1)

pub first_start : (w : View) (x : Start) → IsStart first_past w x → (w ≡ first_view) × (x ≡ record { next = 1; log = [] })
first_start w x e = let h = first_is (is_view w first_view) (record { next = 1; log = [] }) x e in (is_view-true w first_view h.0, h.1)
