-- What an event notes, where one replica made a step, or none.
use Rattle.std.proofs.Common.{◌≡◌, ℕ, zero, suc, ◌+◌, Some, refl, sym, ap, subst, ◌∙◌, arith, inl, inr, List, [], ◌∷◌}
use Rattle.std.specs.Prelude.{slice_get, slice_set}
use Rattle.nop_types.specs.declared.view.View.{View}
use Rattle.started_views.specs.Past.{Past, Standing, HadLog, note}
use Rattle.started_views.proofs.Past.{note_log_here, note_log_places, note_log_other, note_entry_same, note_start_same}
use Rattle.started_views.proofs.Parts.{same_past}
use Rattle.world.specs.Seats.{Seated}
use Rattle.whole_world.specs.Whole.{WholeReplica}
use Rattle.whole_world.specs.Passed.{noted, standing}

-- nothing new is noted of a replica that made no step
pub note_idle : (f : ℕ) (past : Past) (r : ℕ) (s : Standing) → HadLog past r s.last_normal s.log → note f past r s s ≡ past
note_idle f past r s had = same_past (note f past r s s) past (record {
  logs = λ q w. elim (note_log_places f past r s s q w) [
    | inl (a, b) ↦ note_here q w a b
    | inr e ↦ e
  ];
  starts = λ w. note_start_same f past r s s w refl;
  entries = λ q w. note_entry_same f past r s s q w refl;
})
  where
    there : (q : ℕ) (w : View) → q ≡ r → w ≡ s.last_normal → past.log q w ≡ Some s.log
    there q w a b = rw (a, b) had

    noted_log : (q : ℕ) (w : View) → q ≡ r → w ≡ s.last_normal → (note f past r s s).log q w ≡ Some s.log
    noted_log q w a b = rw (a, b) (note_log_here f past r s s)

    note_here : (q : ℕ) (w : View) → q ≡ r → w ≡ s.last_normal → (note f past r s s).log q w ≡ past.log q w
    note_here q w a b = noted_log q w a b ∙ sym (there q w a b)

-- the past has the log of each replica from the number k on
abbrev pub HasLogs : Past → ℕ → List (Seated WholeReplica) → Type 0
HasLogs past k ps = (i : ℕ) (p : Seated WholeReplica) → slice_get ps i ≡ Some p → HadLog past (k + i) p.state.state.last_normal p.state.state.log.entries

rest_has : (past : Past) (k : ℕ) (p : Seated WholeReplica) (ps : List (Seated WholeReplica)) → HasLogs past k (p ∷ ps)
    → HasLogs past (suc k) ps
rest_has past k p ps h i q e = let same : k + suc i ≡ suc k + i = omega arith in
    subst (λ (j : ℕ). HadLog past j q.state.state.last_normal q.state.state.log.entries) same (h (suc i) q e)

first_has : (past : Past) (k : ℕ) (p : Seated WholeReplica) (ps : List (Seated WholeReplica)) → HasLogs past k (p ∷ ps)
    → HadLog past k p.state.state.last_normal p.state.state.log.entries
first_has past k p ps h = let same : k + 0 ≡ k = omega arith in
    subst (λ (j : ℕ). HadLog past j p.state.state.last_normal p.state.state.log.entries) same (h 0 p refl)

pub noted_idle : (f : ℕ) (past : Past) (k : ℕ) (ps : List (Seated WholeReplica)) → HasLogs past k ps → noted f past k ps ps ≡ past
noted_idle f past k [] h = refl
noted_idle f past k (p ∷ ps) h =
    ap (λ (t : Past). noted f t (suc k) ps ps) (note_idle f past k (standing p) (first_has past k p ps h))
    ∙ noted_idle f past (suc k) ps (rest_has past k p ps h)

-- what was noted of a replica tells nothing new of those with greater numbers
after_has : (f : ℕ) (past : Past) (k : ℕ) (a b : Standing) (ps : List (Seated WholeReplica)) → HasLogs past (suc k) ps
    → HasLogs (note f past k a b) (suc k) ps
after_has f past k a b ps h i p e = note_log_other f past k a b (suc k + i) p.state.state.last_normal (λ s. omega (arith, s)) ∙ h i p e

pub noted_one : (f : ℕ) (past : Past) (k : ℕ) (ps : List (Seated WholeReplica)) (i : ℕ) (old new : Seated WholeReplica)
    → HasLogs past k ps → slice_get ps i ≡ Some old
    → noted f past k ps (slice_set ps i new) ≡ note f past (k + i) (standing old) (standing new)
noted_one f past k [] i old new h e = absurd cc
noted_one f past k (p ∷ ps) zero old new h e =
    let same : p ≡ old = cc in
    let here : k + 0 ≡ k = omega arith in
    noted_idle f (note f past k (standing p) (standing new)) (suc k) ps
    (after_has f past k (standing p) (standing new) ps (rest_has past k p ps h))
    ∙ ap (λ (t : Seated WholeReplica). note f past k (standing t) (standing new)) same
    ∙ ap (λ (j : ℕ). note f past j (standing old) (standing new)) (sym here)
noted_one f past k (p ∷ ps) (suc i) old new h e =
    let next : suc k + i ≡ k + suc i = omega arith in
    ap (λ (t : Past). noted f t (suc k) ps (slice_set ps i new)) (note_idle f past k (standing p) (first_has past k p ps h))
    ∙ noted_one f past (suc k) ps i old new (rest_has past k p ps h) e
    ∙ ap (λ (j : ℕ). note f past j (standing old) (standing new)) next
