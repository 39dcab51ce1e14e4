-- Lines worked by hand.
use Rattle.std.proofs.Common.{◌≡◌, ℕ, zero, suc, List, [], ◌∷◌, Some, refl, ap, sym, ◌∙◌, arith, inl, inr}
use Rattle.std.specs.Prelude.{◌⊎◌, slice_get}
use Rattle.std.specs.FinMap as finite
use Rattle.nop_types.specs.declared.request.Request.{Request}
use Rattle.nop_types.specs.declared.request.Entry.TheVariants.{Req}
use Rattle.nop_types.specs.Lists.{Has}
use Rattle.nop_types.specs.Lines.{Line, Submit, Accept}
use Rattle.nop_types.specs.Execution.{result_at}
use Rattle.nop_types.specs.Histories.{answer_at}
use Rattle.nop_types.specs.Legality.{IsOf, IsSubmittedBefore, Legal}
use Rattle.execution_laws.specs.Legality.{IsUnsubmitted, IsUnaccepted, IsNoMember, Grounded}
use Rattle.execution_laws.specs.Worked.{appending, first_request, second_request, retried_log, retried_lines, concurrent_lines, early_lines}
use Rattle.execution_laws.specs.Worked.{wrong_lines, repeated_lines, swapped_lines}
use Rattle.execution_laws.proofs.Ids.{IsOf-refl}
use Rattle.execution_laws.proofs.Accounts.{kept_for-insert}
use Rattle.execution_laws.proofs.Legal.{legal_at_first, legal_with_submit, legal_with_accept, legal_with_member, legal_from_grounds}

is_of_same : (p q r : Request) → p ≡ r → q ≡ r → IsOf p.client p.id q
is_of_same p q r e f =
    let g = f ∙ sym e in record { same_client = ap (λ (t : Request). t.client) g; same_id = ap (λ (t : Request). t.id) g }

-- ---- the retried request: each accept line has its grounds

retried_known : (n : ℕ) (r : Request) → slice_get retried_log n ≡ Some (Req r) → r ≡ first_request
retried_known zero r e = absurd cc
retried_known (suc zero) r e = cc
retried_known (suc (suc zero)) r e = cc
retried_known (suc (suc (suc n))) r e = absurd cc

retried_submit : (k : ℕ) (p : Request) → slice_get retried_lines k ≡ Some (Submit p) → k ≡ 0
retried_submit zero p e = refl
retried_submit (suc zero) p e = absurd cc
retried_submit (suc (suc zero)) p e = absurd cc
retried_submit (suc (suc (suc k))) p e = absurd cc

record AcceptsFirst (k client id : ℕ) (result : List ℕ) : Type 0 where
  place : k ≡ 2
  of_client : client ≡ 1
  of_id : id ≡ 1
  gives : result ≡ 10 ∷ []

retried_accept : (k client id : ℕ) (result : List ℕ) → slice_get retried_lines k ≡ Some (Accept client id result)
    → AcceptsFirst k client id result
retried_accept zero c n a e = absurd cc
retried_accept (suc zero) c n a e = absurd cc
retried_accept (suc (suc zero)) c n a e = record { place = refl; of_client = cc; of_id = cc; gives = cc }
retried_accept (suc (suc (suc k))) c n a e = absurd cc

retried_before : (r : Request) → r ≡ first_request → (k : ℕ) → k ≡ 2 → IsSubmittedBefore retried_lines k r.client r.id
retried_before r e k f =
    record {
      place = 0;
      before = omega (arith, f);
      request = first_request;
      line = refl;
      same = is_of_same r first_request first_request e refl;
    }

retried_result : result_at appending retried_log 3 ≡ Some (10 ∷ [])
retried_result = simp (kept_for-insert, finite.get-empty)

pub retried : Grounded appending retried_lines retried_log
retried = record {
  submitted = λ r h. (0, ap (λ (t : Request). Some (Submit t)) (sym (retried_known h.0 r h.1)));
  submitted_once = λ k l p q g h same. omega (arith, retried_submit k p g, retried_submit l q h);
  accepted_once = λ k l c n a b g h. omega (arith, (retried_accept k c n a g).place, (retried_accept l c n b h).place);
  grounds = λ k c n a h.
      let t = retried_accept k c n a h in
      record {
        slot = 3;
        request = first_request;
        entry = refl;
        same = record { same_client = sym t.of_client; same_id = sym t.of_id };
        gives = retried_result ∙ ap (λ (r : List ℕ). Some r) (sym t.gives);
        known = λ r g. retried_before r (retried_known g.0 r g.1) k t.place;
      };
}

pub retried_legal : Legal appending retried_lines (first_request ∷ [])
retried_legal = legal_from_grounds appending retried_lines retried_log retried

-- ---- two requests at the same time: line by line, and member by member

unsubmitted_1 : IsUnsubmitted [] 1 1
unsubmitted_1 r h same = absurd (let e = h.1 in cc)

unsubmitted_2 : IsUnsubmitted (Submit first_request ∷ []) 2 1
unsubmitted_2 r (zero, e) same =
    let f : first_request ≡ r = cc in absurd (omega (arith, ap (λ (t : Request). t.client) f, same.same_client))
unsubmitted_2 r (suc i, e) same = absurd cc

none_yet : IsNoMember [] 2 1
none_yet r h same = let e = h.1 in cc

not_first : IsNoMember (second_request ∷ []) 1 1
not_first r (zero, e) same = let f : second_request ≡ r = cc in omega (arith, ap (λ (t : Request). t.client) f, same.same_client)
not_first r (suc i, e) same = cc

unaccepted_2 : IsUnaccepted (Submit first_request ∷ Submit second_request ∷ []) 2 1
unaccepted_2 result (zero, e) = cc
unaccepted_2 result (suc zero, e) = cc
unaccepted_2 result (suc (suc i), e) = cc

unaccepted_1 : IsUnaccepted (Submit first_request ∷ Submit second_request ∷ Accept 2 1 (20 ∷ []) ∷ []) 1 1
unaccepted_1 result (zero, e) = cc
unaccepted_1 result (suc zero, e) = cc
unaccepted_1 result (suc (suc zero), e) = cc
unaccepted_1 result (suc (suc (suc i)), e) = cc

pub concurrent : Legal appending concurrent_lines (second_request ∷ first_request ∷ [])
concurrent =
    let one = legal_with_submit appending [] [] first_request unsubmitted_1 (legal_at_first appending) in
    let two = legal_with_submit appending (Submit first_request ∷ []) [] second_request unsubmitted_2 one in
    let both : List Line = Submit first_request ∷ Submit second_request ∷ [] in
    let three = legal_with_member appending both [] second_request (1, refl) none_yet two in
    let four = legal_with_member appending both (second_request ∷ []) first_request (0, refl) not_first three in
    let members : List Request = second_request ∷ first_request ∷ [] in
    let five =
    legal_with_accept appending both members 2 1 (20 ∷ [])
    (record { place = 1; before = omega arith; request = second_request; line = refl; same = IsOf-refl second_request }) unaccepted_2
    (record { place = 0; request = second_request; member = refl; same = IsOf-refl second_request; answer = refl }) four in
    legal_with_accept appending (Submit first_request ∷ Submit second_request ∷ Accept 2 1 (20 ∷ []) ∷ []) members 1 1 (20 ∷ 10 ∷ [])
    (record { place = 0; before = omega arith; request = first_request; line = refl; same = IsOf-refl first_request }) unaccepted_1
    (record { place = 1; request = first_request; member = refl; same = IsOf-refl first_request; answer = refl }) five

-- ---- lines that no history makes legal

pub early : (history : List Request) → Legal appending early_lines history → ⊥
early history l = let s = l.later 0 1 1 (10 ∷ []) refl in omega (arith, s.before)

pub repeated : (history : List Request) → Legal appending repeated_lines history → ⊥
repeated history l = let e : 1 ≡ 2 = l.once 1 2 1 1 (10 ∷ []) (10 ∷ []) refl refl in omega (arith, e)

wrong_submit : (r : Request) → Has wrong_lines (Submit r) → r ≡ first_request
wrong_submit r (zero, e) = cc
wrong_submit r (suc zero, e) = absurd cc
wrong_submit r (suc (suc i), e) = absurd cc

pub wrong : (history : List Request) → Legal appending wrong_lines history → ⊥
wrong history l = let a = l.answered 1 1 1 (11 ∷ []) refl in here history l a.place a.request a.member a.answer
  where
    here : (history : List Request) → Legal appending wrong_lines history → (i : ℕ) (r : Request) → slice_get history i ≡ Some r
        → answer_at appending history i ≡ Some (11 ∷ []) → ⊥
    here [] l i r h g = cc
    here (q ∷ rest) l zero r h g = let e : q ≡ first_request = wrong_submit q (l.submitted q (zero, refl)) in let f : q.op ≡ 11 ∷ [] =
        cc in let o = ap (λ (t : Request). t.op) e in cc
    here (q ∷ rest) l (suc i) r h g =
        let e : 0 ≡ suc i =
        l.apart 0 (suc i) q r refl h
        (is_of_same q r first_request (wrong_submit q (l.submitted q (zero, refl))) (wrong_submit r (l.submitted r (suc i, h)))) in
        omega (arith, e)

swapped_submit : (r : Request) → Has swapped_lines (Submit r) → (r ≡ first_request) ⊎ (r ≡ second_request)
swapped_submit r (zero, e) = inl cc
swapped_submit r (suc zero, e) = absurd cc
swapped_submit r (suc (suc zero), e) = inr cc
swapped_submit r (suc (suc (suc i)), e) = absurd cc

pub swapped : (history : List Request) → Legal appending swapped_lines history → ⊥
swapped history l = let a = l.answered 1 1 1 (20 ∷ 10 ∷ []) refl in here history l a.place a.request a.member a.same a.answer
  where
    here : (history : List Request) → Legal appending swapped_lines history → (i : ℕ) (r : Request) → slice_get history i ≡ Some r
        → IsOf 1 1 r → answer_at appending history i ≡ Some (20 ∷ 10 ∷ []) → ⊥
    here [] l i r h same g = cc
    here (q ∷ rest) l zero r h same g = elim (swapped_submit q (l.submitted q (zero, refl))) [
      | inl e ↦ let o = ap (λ (t : Request). t.op) e in cc
      | inr e ↦ let o = ap (λ (t : Request). t.op) e in cc
    ]
    here (q ∷ rest) l (suc i) r h same g = elim (swapped_submit q (l.submitted q (zero, refl))) [
      | inl e ↦ let f : 0 ≡ suc i =
          l.apart 0 (suc i) q r refl h
          (record {
            same_client = same.same_client ∙ sym (ap (λ (t : Request). t.client) e);
            same_id = same.same_id ∙ sym (ap (λ (t : Request). t.id) e);
          }) in omega (arith, f)
      | inr e ↦ let lt =
          l.ordered 1 2 1 1 (20 ∷ 10 ∷ []) second_request (omega arith) refl refl (suc i) 0 r q h same refl
          (is_of_same second_request q second_request refl e) in omega (arith, lt)
    ]

-- ---- histories that the lines do not allow

pub unsubmitted : Legal appending [] (first_request ∷ []) → ⊥
unsubmitted l = let h = l.submitted first_request (zero, refl) in let e = h.1 in cc

pub doubled : Legal appending (Submit first_request ∷ []) (first_request ∷ first_request ∷ []) → ⊥
doubled l = let e : 0 ≡ 1 = l.apart 0 1 first_request first_request refl refl (IsOf-refl first_request) in omega (arith, e)

pub missing : Legal appending (Submit first_request ∷ Accept 1 1 (10 ∷ []) ∷ []) [] → ⊥
missing l = let a = l.answered 1 1 1 (10 ∷ []) refl in let e = a.member in cc
