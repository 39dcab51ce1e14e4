-- The lines of a part are those that it owns.
use Rattle.std.proofs.Common.{◌≡◌, ℕ, Bool, true, false, List, [], ◌∷◌, Some, refl, sym, ap, ◌∙◌, inl, inr}
use Rattle.std.specs.Prelude.{◌==◌, ◌&&◌, ◌||◌, slice_get}
use Rattle.std.specs.List.{list_any}
use Rattle.std.proofs.lemmas.Bool.{eq-eqb, eqb-true, and_parts, and_from}
use Rattle.execution_laws.specs.Legality.{SubmittedOnce}
use Rattle.execution_laws.proofs.Ids.{IsOf-both}
use Rattle.fronts.specs.Parts.{is_of, AreOwn}
use Rattle.joined_orders.specs.Owning.{submits_own, is_own}
use Rattle.lemmas.proofs.Members.{Has-cases, Has-first, Has-none, Has-rest}
use Rattle.lemmas.proofs.Options.{same_Some-at}
use Rattle.nop_types.specs.Legality.{IsOf}
use Rattle.nop_types.specs.Lines.{Line, Submit}
use Rattle.nop_types.specs.Lists.{Has}
use Rattle.nop_types.specs.declared.request.Request.{Request}

or-left : (a b : Bool) → a ≡ true → (a || b) ≡ true
or-left true b e = refl
or-left false b e = absurd cc

or-right : (a b : Bool) → b ≡ true → (a || b) ≡ true
or-right true b e = refl
or-right false b e = e

pub any-has : {A : Type 0} (p : A → Bool) (xs : List A) (x : A) → Has xs x → p x ≡ true → list_any p xs ≡ true
any-has p [] x h e = absurd (Has-none x h)
any-has p (y ∷ ys) x h e = elim (Has-cases x y ys h) [
  | inl g ↦ or-left (p y) (list_any p ys) (sym (ap p g) ∙ e)
  | inr g ↦ or-right (p y) (list_any p ys) (any-has p ys x g e)
]

pub any-from : {A : Type 0} (p : A → Bool) (xs : List A) → list_any p xs ≡ true → (x : A) × Has xs x × (p x ≡ true)
any-from p [] e = absurd cc
any-from {A} p (y ∷ ys) e = here (p y) refl e (λ g. any-from p ys g)
  where
    here : (b : Bool) → p y ≡ b → (b || list_any p ys) ≡ true → (list_any p ys ≡ true → (x : A) × Has ys x × (p x ≡ true))
        → (x : A) × Has (y ∷ ys) x × (p x ≡ true)
    here true t g rest = (y, Has-first y y ys refl, t)
    here false t g rest = let r = rest g in (r.0, Has-rest r.0 y ys r.1, r.2)

module _ (part : List ℕ → List ℕ) (p : List ℕ) (client id : ℕ) where
  of_same : (r : Request) → IsOf client id r → is_of part p r.op ≡ true → submits_own part p client id (Submit r) ≡ true
  of_same r same e =
      and_from ((r.client == client) && (r.id == id)) (is_of part p r.op)
      (and_from (r.client == client) (r.id == id) (eq-eqb r.client client same.same_client) (eq-eqb r.id id same.same_id)) e

  same_of : (r : Request) → submits_own part p client id (Submit r) ≡ true → IsOf client id r × (is_of part p r.op ≡ true)
  same_of r e =
      let a = and_parts ((r.client == client) && (r.id == id)) (is_of part p r.op) e in
      let b = and_parts (r.client == client) (r.id == id) a.0 in
      (record { same_client = eqb-true r.client client b.0; same_id = eqb-true r.id id b.1 }, a.1)

  submits_at : (line : Line) → submits_own part p client id line ≡ true
      → (r : Request) × (line ≡ Submit r) × IsOf client id r × (is_of part p r.op ≡ true)
  submits_at (Submit r) e = let s = same_of r e in (r, refl, s.0, s.1)
  submits_at _ e = absurd cc

module _ (part : List ℕ → List ℕ) (lines : List Line) (p : List ℕ) (once : SubmittedOnce lines) where
  accepts : (client id : ℕ) (r : Request) → Has lines (Submit r) → IsOf client id r
      → list_any (submits_own part p client id) lines ≡ is_of part p r.op
  accepts client id r h same =
      here (is_of part p r.op) refl (list_any (submits_own part p client id) lines) refl
    where
      here : (b : Bool) → is_of part p r.op ≡ b → (c : Bool) → list_any (submits_own part p client id) lines ≡ c → c ≡ b
      here true e true f = refl
      here false e false f = refl
      here true e false f =
          absurd (let t = any-has (submits_own part p client id) lines (Submit r) h (of_same part p client id r same e) in
          let x : true ≡ false = sym t ∙ f in cc)
      here false e true f =
          let found = any-from (submits_own part p client id) lines f in
          let q = submits_at part p client id found.0 found.2 in
          let at_q : slice_get lines found.1.0 ≡ Some (Submit q.0) = found.1.1 ∙ ap (λ (t : Line). Some t) q.1 in
          let one = once h.0 found.1.0 r q.0 h.1 at_q (IsOf-both client id r q.0 same q.2) in
          let lines_same : Submit r ≡ Submit q.0 =
          same_Some-at (slice_get lines h.0) (Submit r) (Submit q.0) h.1 (ap (λ (t : ℕ). slice_get lines t) one ∙ at_q) in
          let is : r ≡ q.0 = cc in
          absurd (let x : true ≡ false = sym q.3 ∙ sym (ap (λ (t : Request). is_of part p t.op) is) ∙ e in cc)

  pub owns : AreOwn lines (is_of part p) (is_own part lines p)
  owns = record {
    submits = λ r. refl;
    accepts = λ client id result r h same. accepts client id r h same;
  }
