-- No two open requests have one id, so that with each acceptance one less is open.
use Rattle.std.proofs.Common.{◌≡◌, ℕ, ◌+◌, ◌≤◌, Bool, true, false, cond, refl, sym, ap, subst, ◌∙◌, inl, inr, arith, List, []}
use Rattle.std.proofs.Common.{◌∷◌, ◌++◌, length}
use Rattle.std.specs.Prelude.{◌==◌, not, ⊤}
use Rattle.std.proofs.lemmas.Bool.{both_ways, eq-eqb, eqb-true}
use Rattle.nop_types.specs.Configuration.{Configuration}
use Rattle.nop_types.specs.Given.{Given}
use Rattle.nop_types.specs.Lists.{Has}
use Rattle.nop_types.specs.declared.output.Out.{Out}
use Rattle.nop_types.specs.declared.request.Request.{Request}
use Rattle.lemmas.proofs.Members.{Has-first, Has-rest, Has-none, Has-cases, Has-push_cases, Has-from_filter}
use Rattle.client_quorum.specs.declared.state.ClientState.{ClientState}
use Rattle.client_quorum.specs.ClientSteps.{kept, opening, request_of}
use Rattle.client_quorum.specs.OpenRequests.{open_requests}
use Rattle.client_quorum.specs.Rows.{Row, Rests, SaysBusy, Opens, Repeats, Keeps, Accepts}
use Rattle.client_quorum.specs.Runs.{without, Holds}
use Rattle.client_quorum.proofs.OpenRequests.{closes, expected_is_open, keeps, opening_opens_none, opens}

abbrev pub AreApart : List Request → Type 0
AreApart [] = ⊤
AreApart (q ∷ qs) = (Holds qs q.id → ⊥) × AreApart qs

apart_push : (qs : List Request) (r : Request) → AreApart qs → (Holds qs r.id → ⊥) → AreApart (qs ++ r ∷ [])
apart_push [] r apart new = (λ h. Has-none h.0 h.1, tt)
apart_push (q ∷ qs) r apart new = (
  λ h. elim (Has-push_cases qs r h.0 h.1) [
    | inl old ↦ apart.0 (h.0, old, h.2)
    | inr same ↦ new (q, Has-first q q qs refl, sym h.2 ∙ ap (λ (p : Request). p.id) (sym same))
  ],
  apart_push qs r apart.1 (λ h. new (h.0, Has-rest h.0 q qs h.1, h.2)),
)

apart_left : (qs : List Request) (id : ℕ) → AreApart qs → AreApart (without qs id)
apart_left [] id apart = tt
apart_left (q ∷ qs) id apart = on (not (q.id == id)) (apart_left qs id apart.1)
  where
    on : (b : Bool) → AreApart (without qs id) → AreApart (cond b (q ∷ without qs id) (without qs id))
    on true rest = (λ h. apart.0 (h.0, (Has-from_filter (λ p. not (p.id == id)) h.0 qs h.1).0, h.2), rest)
    on false rest = rest

-- where none has the id, all are left
all_left : (qs : List Request) (id : ℕ) → (Holds qs id → ⊥) → without qs id ≡ qs
all_left [] id none = refl
all_left (q ∷ qs) id none = on (q.id == id) refl (all_left qs id (λ h. none (h.0, Has-rest h.0 q qs h.1, h.2)))
  where
    on : (b : Bool) → (q.id == id) ≡ b → without qs id ≡ qs → cond (not b) (q ∷ without qs id) (without qs id) ≡ q ∷ qs
    on true same rest = absurd (none (q, Has-first q q qs refl, eqb-true q.id id same))
    on false same rest = ap (λ (l : List Request). q ∷ l) rest

-- where one has it, all but one are left
pub one_less : (qs : List Request) (id : ℕ) → AreApart qs → Holds qs id → length qs ≡ length (without qs id) + 1
one_less [] id apart h = absurd (Has-none h.0 h.1)
one_less (q ∷ qs) id apart h = on (q.id == id) refl (one_less qs id apart.1)
  where
    on : (b : Bool) → (q.id == id) ≡ b → (Holds qs id → length qs ≡ length (without qs id) + 1)
        → length (q ∷ qs) ≡ length (cond (not b) (q ∷ without qs id) (without qs id)) + 1
    on true same rest =
        let is = eqb-true q.id id same in
        let all = all_left qs id (λ g. apart.0 (g.0, g.1, g.2 ∙ sym is)) in
        let as_many : length (without qs id) ≡ length qs = ap (λ (l : List Request). length l) all in
        omega (arith, as_many)
    on false same rest = elim (Has-cases h.0 q qs h.1) [
      | inl first ↦ absurd (both_ways (q.id == id) same (eq-eqb q.id id (ap (λ (p : Request). p.id) (sym first) ∙ h.2)))
      | inr later ↦ (let less = rest (h.0, later, h.2) in omega (arith, less))
    ]

-- the ids of the open requests differ, and the last id is the highest
pub record IsTidy (s : ClientState) : Type 0 where
  pub apart : AreApart (open_requests s)
  pub low : (q : Request) → Has (open_requests s) q → q.id ≤ s.last_id

-- what holds of lists of open requests
tidy_by : (s : ClientState) (qs : List Request) → open_requests s ≡ qs → AreApart qs → ((q : Request) → Has qs q → q.id ≤ s.last_id) → IsTidy s
tidy_by s qs is apart low = record {
  apart = subst AreApart (sym is) apart;
  low = λ q h. low q (subst (λ (l : List Request). Has l q) is h);
}

pub opening_tidy : (config : Configuration) (number : ℕ) (ops : List (List ℕ)) → IsTidy (opening config number ops)
opening_tidy config number ops =
    tidy_by (opening config number ops) [] (opening_opens_none config number ops) tt (λ q h. absurd (Has-none q h))

pub row_tidy : (s : ClientState) (x : Given) → IsTidy s → (y : ClientState × List Out) → Row s x y → IsTidy y.0
row_tidy s x tidy y (Rests nothing) = tidy
row_tidy s x tidy y (SaysBusy op is busy) = tidy
row_tidy s x tidy y (Opens op waiting may from) =
    let r = request_of s op in
    tidy_by y.0 (open_requests s ++ r ∷ []) (opens s r waiting).requests
    (apart_push (open_requests s) r tidy.apart (λ h. let low = tidy.low h.0 h.1 in let is = h.2 in omega (arith, low, is)))
    (λ q h. elim (Has-push_cases (open_requests s) r q h) [
      | inl old ↦ (let low = tidy.low q old in omega (arith, low))
      | inr same ↦ (let its : s.last_id + 1 ≡ q.id = ap (λ (p : Request). p.id) same in omega (arith, its))
    ])
row_tidy s x tidy y (Repeats is) = tidy
row_tidy s x tidy y (Keeps p has e quorum) =
    tidy_by y.0 (open_requests s) (keeps s p (expected_is_open s p e)).requests tidy.apart tidy.low
row_tidy s x tidy y (Accepts p leaders has e quorum) =
    let left : open_requests y.0 ≡ without (open_requests s) p.id =
    (closes (kept s p) p.id leaders).requests
    ∙ ap (λ (l : List Request). without l p.id) (keeps s p (expected_is_open s p e)).requests in
    tidy_by y.0 (without (open_requests s) p.id) left (apart_left (open_requests s) p.id tidy.apart)
    (λ q h. tidy.low q (Has-from_filter (λ r. not (r.id == p.id)) q (open_requests s) h).0)
