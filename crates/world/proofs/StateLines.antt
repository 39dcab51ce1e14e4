-- Lines that are put one after the other.
use Rattle.std.proofs.Common.{◌≡◌, ℕ, ◌+◌, ◌<◌, ◌≤◌, List, ◌∷◌, ◌++◌, length, drop, get_or, sym, ap, ◌∙◌, append_assoc, append-nil}
use Rattle.std.proofs.Common.{arith}
use Rattle.std.specs.Prelude.{map, IsTrue}
use Rattle.std.proofs.lemmas.List.{drop_more, drop_all}
use Rattle.nop_types.specs.Configuration.{Configuration, is_configuration}
use Rattle.nop_types.specs.declared.limits.TheConstants.{MAX_OBSERVERS}
use Rattle.nop_types.specs.declared.request.Entry.{Entry}
use Rattle.transcript_text.specs.Transcript.{entry_line}
use Rattle.observer.specs.ObserverSteps.{Observer}
use Rattle.replica_core.specs.ReplicaSteps.{Replica}
use Rattle.world.specs.Seats.{Seated}
use Rattle.world.specs.StateLines.{entries_text, replica_text, replicas_text, observer_text, observers_text}

-- where all is what was put and what is left, it is so after one more
pub entries_next : (replica i : ℕ) (es : List Entry) (e : Entry) (now new all : List ℕ) → i < length es → e ≡ get_or es i e
    → new ≡ now ++ entry_line replica (i + 1) e → now ++ entries_text replica (i + 1) (drop i es) ≡ all
    → new ++ entries_text replica (i + 1 + 1) (drop (i + 1) es) ≡ all
entries_next replica i es e now new all lt is put so_far =
    let left : List ℕ = entries_text replica (i + 1 + 1) (drop (i + 1) es) in
    let next : drop i es ≡ e ∷ drop (i + 1) es = drop_more es i e lt ∙ ap (λ (x : Entry). x ∷ drop (i + 1) es) (sym is) in
    ap (λ (t : List ℕ). t ++ left) put ∙ append_assoc now (entry_line replica (i + 1) e) left
    ∙ ap (λ (xs : List Entry). now ++ entries_text replica (i + 1) xs) (sym next) ∙ so_far

pub entries_end : (replica i : ℕ) (es : List Entry) (now all : List ℕ) → length es ≤ i
    → now ++ entries_text replica (i + 1) (drop i es) ≡ all → now ≡ all
entries_end replica i es now all le so_far =
    sym (append-nil now) ∙ ap (λ (xs : List Entry). now ++ entries_text replica (i + 1) xs) (sym (drop_all i es le)) ∙ so_far

module _ {X : Type 0} (archive : List Entry) (f : X → Seated Replica) (i : ℕ) (ps : List X) where
  pub replicas_next : (p : X) (now new all : List ℕ) → i < length ps → p ≡ get_or ps i p → new ≡ now ++ replica_text archive i (f p)
      → now ++ replicas_text archive i (map f (drop i ps)) ≡ all
      → new ++ replicas_text archive (i + 1) (map f (drop (i + 1) ps)) ≡ all
  replicas_next p now new all lt is put so_far =
      let left : List ℕ = replicas_text archive (i + 1) (map f (drop (i + 1) ps)) in
      let next : drop i ps ≡ p ∷ drop (i + 1) ps = drop_more ps i p lt ∙ ap (λ (x : X). x ∷ drop (i + 1) ps) (sym is) in
      ap (λ (t : List ℕ). t ++ left) put ∙ append_assoc now (replica_text archive i (f p)) left
      ∙ ap (λ (xs : List X). now ++ replicas_text archive i (map f xs)) (sym next) ∙ so_far

  pub replicas_end : (now all : List ℕ) → length ps ≤ i → now ++ replicas_text archive i (map f (drop i ps)) ≡ all → now ≡ all
  replicas_end now all le so_far =
      sym (append-nil now) ∙ ap (λ (xs : List X). now ++ replicas_text archive i (map f xs)) (sym (drop_all i ps le)) ∙ so_far

module _ {X : Type 0} (f : X → Seated Observer) (i : ℕ) (ps : List X) where
  pub observers_next : (p : X) (now new all : List ℕ) → i < length ps → p ≡ get_or ps i p → new ≡ now ++ observer_text i (f p)
      → now ++ observers_text i (map f (drop i ps)) ≡ all → new ++ observers_text (i + 1) (map f (drop (i + 1) ps)) ≡ all
  observers_next p now new all lt is put so_far =
      let left : List ℕ = observers_text (i + 1) (map f (drop (i + 1) ps)) in
      let next : drop i ps ≡ p ∷ drop (i + 1) ps = drop_more ps i p lt ∙ ap (λ (x : X). x ∷ drop (i + 1) ps) (sym is) in
      ap (λ (t : List ℕ). t ++ left) put ∙ append_assoc now (observer_text i (f p)) left
      ∙ ap (λ (xs : List X). now ++ observers_text i (map f xs)) (sym next) ∙ so_far

  pub observers_end : (now all : List ℕ) → length ps ≤ i → now ++ observers_text i (map f (drop i ps)) ≡ all → now ≡ all
  observers_end now all le so_far =
      sym (append-nil now) ∙ ap (λ (xs : List X). now ++ observers_text i (map f xs)) (sym (drop_all i ps le)) ∙ so_far

-- a configuration has few observers
pub few_observers : (config : Configuration) → IsTrue (is_configuration config) → config.observers ≤ MAX_OBSERVERS
few_observers config is = grind (arith, is)
