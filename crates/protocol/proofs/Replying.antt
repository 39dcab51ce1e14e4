-- Replies of a replica are true of its log.
use Rattle.std.proofs.Common.{◌≡◌, ℕ, suc, ◌+◌, ◌*◌, Bool, true, false, Option, Some, None, refl, sym, ap, subst, ◌∙◌, arith, inl, inr}
use Rattle.std.proofs.Common.{List, [], ◌∷◌}
use Rattle.std.specs.Prelude.{slice_get, drop}
use Rattle.nop_types.specs.declared.request.Request.{Request}
use Rattle.nop_types.specs.declared.request.Entry.{Entry}
use Rattle.nop_types.specs.declared.request.Entry.TheVariants.{NoOp, Req}
use Rattle.nop_types.specs.declared.datagram.Reply.{Reply}
use Rattle.nop_types.specs.Execution.{result_at}
use Rattle.nop_types.specs.Lists.{Has, slot_of}
use Rattle.nop_types.specs.Meaning.{Meaning}
use Rattle.nop_types.specs.Views.{leader_of}
use Rattle.lemmas.proofs.Members.{Has-append_cases, Has-one, Has-none}
use Rattle.started_views.specs.Past.{HadLog}
use Rattle.std.proofs.lemmas.Bool.{eq-eqb}
use Rattle.lemmas.proofs.Slots.{slot_of-within}
use Rattle.protocol.specs.Conf.{Conf}
use Rattle.protocol.specs.Invariant.{TrueReply}
use Rattle.protocol.specs.LocalState.{LocalState, leads}
use Rattle.protocol.specs.Replies.{reply_with, leader_reply, reply_if, reply_for, replies_to, replies_above}
use Rattle.protocol.proofs.Facts.{drop_get}

-- who leads by its own number does
pub leads_from : (f : ℕ) (p : LocalState) → p.replicas ≡ 2 * f + 1 → p.number ≡ leader_of p.view (2 * f + 1) → leads p ≡ true
leads_from f p n s = eq-eqb (leader_of p.view p.replicas) p.number (ap (λ (n : ℕ). leader_of p.view n) n ∙ sym s)

module _ {S : Type 0} (m : Meaning S) (f : ℕ) (d : Conf) (p : LocalState) (count : p.replicas ≡ 2 * f + 1)
    (had : HadLog d.past p.number p.view p.log) where
  one_true : (k : ℕ) (q : Request) (tag : ℕ) (result : List ℕ) → slot_of p.log k ≡ Some (Req q)
      → (p.number ≡ leader_of p.view (2 * f + 1) → tag ≡ 1)
      → (p.number ≡ leader_of p.view (2 * f + 1) → result_at m p.log k ≡ Some result) → TrueReply m f d (reply_with p k q tag result)
  one_true k q tag result e tagged gives =
      let there = slot_of-within p.log k (Req q) e in
      record {
        low = omega (arith, there.0);
        log = p.log;
        had = had;
        within = there.1;
        tag = tagged;
        leads = λ s. (q, e, record { same_client = refl; same_id = refl });
        gives = gives;
      }

  leader_true : (k : ℕ) (q : Request) → slot_of p.log k ≡ Some (Req q) → (o : Option (List ℕ)) → result_at m p.log k ≡ o → (y : Reply)
      → Has (leader_reply p k q o) y → TrueReply m f d y
  leader_true k q e None g y i = absurd (Has-none y i)
  leader_true k q e (Some result) g y i = subst (TrueReply m f d) (sym (Has-one y (reply_with p k q 1 result) i))
      (one_true k q 1 result e (λ s. refl) (λ s. g))

  no_leader : leads p ≡ false → p.number ≡ leader_of p.view (2 * f + 1) → ⊥
  no_leader e s = let yes = leads_from f p count s in cc

  pub reply_true : (k : ℕ) (q : Request) → slot_of p.log k ≡ Some (Req q) → (b : Bool) → leads p ≡ b → (y : Reply)
      → Has (reply_if m b p k q) y → TrueReply m f d y
  reply_true k q e true g y i = leader_true k q e (result_at m p.log k) refl y i
  reply_true k q e false g y i = subst (TrueReply m f d) (sym (Has-one y (reply_with p k q 0 []) i))
      (one_true k q 0 [] e (λ s. absurd (no_leader g s)) (λ s. absurd (no_leader g s)))

  entry_true : (k : ℕ) (x : Entry) → slot_of p.log k ≡ Some x → (y : Reply) → Has (reply_for m p k x) y → TrueReply m f d y
  entry_true k NoOp e y i = absurd (Has-none y i)
  entry_true k (Req q) e y i = reply_true k q e (leads p) refl y i

  entries_true : (k : ℕ) (xs : List Entry) → ((i : ℕ) (x : Entry) → slice_get xs i ≡ Some x → slot_of p.log (k + i) ≡ Some x)
      → (y : Reply) → Has (replies_to m p k xs) y → TrueReply m f d y
  entries_true k [] there y i = absurd (Has-none y i)
  entries_true k (x ∷ xs) there y i = elim (Has-append_cases (reply_for m p k x) (replies_to m p (k + 1) xs) y i) [
    | inl g ↦ (let e : k + 0 ≡ k = omega arith in entry_true k x (subst (λ (j : ℕ). slot_of p.log j ≡ Some x) e (there 0 x refl)) y g)
    | inr g ↦ entries_true (k + 1) xs (λ j z h. let e : k + suc j ≡ k + 1 + j = omega arith in
        subst (λ (n : ℕ). slot_of p.log n ≡ Some z) e (there (suc j) z h)) y g
  ]

  pub above_true : (s : ℕ) (y : Reply) → Has (replies_above m p s) y → TrueReply m f d y
  above_true s y i = entries_true (s + 1) (drop s p.log) (λ j x h. let e : suc (s + j) ≡ s + 1 + j = omega arith in
      subst (λ (n : ℕ). slot_of p.log n ≡ Some x) e (sym (drop_get s p.log j) ∙ h)) y i
