-- One thing after another, over trimmed logs and over whole ones.
use Rattle.std.proofs.Common.{◌≡◌, Bool, true, false, List, [], ◌∷◌, ◌++◌, map, refl, sym, ap, ◌∙◌}
use Rattle.nop_types.specs.Meaning.{Meaning}
use Rattle.nop_types.specs.Logs.{IsWithin}
use Rattle.nop_types.specs.declared.peer.Body.{Body}
use Rattle.replica_state.specs.declared.sending.Sending.{Sending}
use Rattle.replica_state.specs.declared.state.ReplicaState.{ReplicaState}
use Rattle.replica_state.specs.Sends.{Effect, still, then_do, when, to_all_if}
use Rattle.replica_state.specs.State.{PointsMeet}
use Rattle.trimmed_rows.specs.Trimmed.{trimmed, trimmed_body, trimmed_sending, trimmed_effect}

pub map-both : {A B : Type 0} (f : A → B) (xs ys : List A) → map f (xs ++ ys) ≡ map f xs ++ map f ys
map-both f [] ys = refl
map-both f (x ∷ xs) ys = ap (λ (t : List _). f x ∷ t) (map-both f xs ys)

-- the log can be trimmed
pub record Stands (s : ReplicaState) : Type 0 where
  pub within : IsWithin s.log
  pub points : PointsMeet s

module _ {S : Type 0} (m : Meaning S) where
  abbrev pub st : ReplicaState → ReplicaState
  st = trimmed m

  abbrev pub ts : List Sending → List Sending
  ts xs = map (trimmed_sending m) xs

  abbrev pub ef : Effect → Effect
  ef = trimmed_effect m

  -- d is what e becomes that is trimmed, and e leaves a log that can be trimmed
  pub record Goes (d e : Effect) : Type 0 where
    pub same : d ≡ ef e
    pub stands : Stands e.0

  pub still_goes : (s : ReplicaState) → Stands s → Goes (still (st s)) (still s)
  still_goes s h = record { same = refl; stands = h }

  pub then_same : (d e : Effect) (g f : ReplicaState → Effect) → d ≡ ef e → g (st e.0) ≡ ef (f e.0) → then_do d g ≡ ef (then_do e f)
  then_same d e g f one rest =
      ap (λ (x : Effect). then_do x g) one
      ∙ ap (λ (t : Effect). (t.0, ts e.1 ++ t.1)) rest
      ∙ ap (λ (xs : List Sending). (st (f e.0).0, xs)) (sym (map-both (trimmed_sending m) e.1 (f e.0).1))

  pub then_goes : (d e : Effect) (g f : ReplicaState → Effect) → Goes d e → (Stands e.0 → Goes (g (st e.0)) (f e.0))
      → Goes (then_do d g) (then_do e f)
  then_goes d e g f one more =
      let rest = more one.stands in
      record { same = then_same d e g f one.same rest.same; stands = rest.stands }

  pub when_goes : (a b : Bool) (g f : ReplicaState → Effect) (s : ReplicaState) → a ≡ b → Stands s → (b ≡ true → Goes (g (st s)) (f s))
      → Goes (when a g (st s)) (when b f s)
  when_goes a true g f s e h more = let r = more refl in record { same = ap (λ (t : Bool). when t g (st s)) e ∙ r.same; stands = r.stands }
  when_goes a false g f s e h more = record { same = ap (λ (t : Bool). when t g (st s)) e; stands = h }

  pub all_trims : (b : Bool) (s : ReplicaState) (body : Body) → to_all_if b (st s) (trimmed_body m body) ≡ ts (to_all_if b s body)
  all_trims true s body = refl
  all_trims false s body = refl
