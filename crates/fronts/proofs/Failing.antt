-- Where a configuration failed, fronts with what was left there, but for some that is never accepted, go nowhere.
use Rattle.std.proofs.Common.{◌≡◌, ℕ, Bool, true, false, List, [], ◌∷◌, Some, refl, sym, ap, subst, ◌∙◌}
use Rattle.std.specs.Prelude.{slice_get}
use Rattle.lemmas.proofs.Options.{same_Some-at}
use Rattle.fronts.specs.Configurations.{AreLeft, HasUnaccepted, IsFailed}
use Rattle.fronts.specs.Fronts.{after_all, GoesOn, IsSubmittedAt, IsMember, IsFront}
use Rattle.fronts.proofs.Alike.{goes_on_alike}
use Rattle.execution_laws.specs.Legality.{SubmittedOnce}
use Rattle.execution_laws.proofs.Ids.{IsOf-refl, IsOf-both}
use Rattle.nop_types.specs.Lines.{Line, Submit, Accept}
use Rattle.nop_types.specs.Lists.{Has, is_in}
use Rattle.nop_types.specs.Meaning.{Meaning}
use Rattle.nop_types.specs.declared.request.Request.{Request}

module _ {S : Type 0} (m : Meaning S) (lines : List Line) (once : SubmittedOnce lines) (k : ℕ) (places left : List ℕ)
    (more : HasUnaccepted lines left places) where
  -- where something of its client and id is a member, what is submitted is
  placed_there : (f : List Request) (r : Request) (s : IsSubmittedAt lines k r) → IsFront m lines k f → IsMember f r.client r.id → Has f r
  placed_there f r s is_f x =
      let t = is_f.submitted x.request x.member in
      let one : t.place ≡ s.place =
      once t.place s.place x.request r t.line s.line (IsOf-both r.client r.id x.request r x.same (IsOf-refl r)) in
      let lines_same : Submit x.request ≡ Submit r =
      same_Some-at (slice_get lines t.place) (Submit x.request) (Submit r) t.line
      (ap (λ (n : ℕ). slice_get lines n) one ∙ s.line) in
      let same : x.request ≡ r = cc in
      subst (λ (q : Request). Has f q) same x.member

  module _ (f g : List Request) (is_f : IsFront m lines k f) (is_g : IsFront m lines k g) (left_f : AreLeft lines k f places)
      (left_g : AreLeft lines k g left) where
    -- a member of the one that failed is a member
    is_there : (r : Request) → Has f r → Has g r
    is_there r h = here (is_in left s.place) refl
      where
        s : IsSubmittedAt lines k r
        s = is_f.submitted r h

        here : (b : Bool) → is_in left s.place ≡ b → Has g r
        here true e = absurd (left_f.left s.place r s.before s.line (more.within s.place e) r h (IsOf-refl r))
        here false e = placed_there g r s is_g (left_g.placed s.place r s.before s.line e)

    -- a member that a line accepts was one where it failed
    was_there : (r : Request) (result : List ℕ) → Has g r → Has lines (Accept r.client r.id result) → Has f r
    was_there r result h accepts = here (is_in places s.place) (is_in left s.place) refl refl
      where
        s : IsSubmittedAt lines k r
        s = is_g.submitted r h

        here : (b c : Bool) → is_in places s.place ≡ b → is_in left s.place ≡ c → Has f r
        here false c e i = placed_there f r s is_f (left_f.placed s.place r s.before s.line e)
        here true true e i = absurd (left_g.left s.place r s.before s.line i r h (IsOf-refl r))
        here true false e i = absurd (more.besides s.place e i r result s.line accepts)

  module _ (IsSound : S → Type 0) (opens : IsSound m.opening) (stays : (s : S) (op : List ℕ) → IsSound s → IsSound (m.after s op))
      (again : (s : S) → IsSound s → m.loaded (m.saved s) ≡ Some s) where
    pub sound_after : (s : S) (xs : List Request) → IsSound s → IsSound (after_all m s xs)
    sound_after s [] h = h
    sound_after s (x ∷ xs) h = sound_after (m.after s x.op) xs (stays s x.op h)

    -- what is saved alike is alike
    same_state : (a b : S) → IsSound a → IsSound b → m.saved a ≡ m.saved b → a ≡ b
    same_state a b h i e =
        let same : Some a ≡ Some b = sym (again a h) ∙ (ap (λ (t : List ℕ). m.loaded t) e ∙ again b i) in
        cc

    -- a front whose configuration failed goes nowhere
    pub failed_again : (saved : List ℕ) (g : List Request) → IsFailed m lines k places saved → IsFront m lines k g → AreLeft lines k g left
        → m.saved (after_all m m.opening g) ≡ saved → GoesOn m lines g → ⊥
    failed_again saved g x is_g left_g e goes =
        let f = x.front in
        let state : after_all m m.opening g ≡ after_all m m.opening f =
        same_state (after_all m m.opening g) (after_all m m.opening f) (sound_after m.opening g opens) (sound_after m.opening f opens)
        (e ∙ sym x.saved_is) in
        x.fails (goes_on_alike m lines k g f once x.is_front (record {
          members = is_there f g x.is_front is_g x.are_left left_g;
          accepted = was_there f g x.is_front is_g x.are_left left_g;
          state = state;
        }) goes)
