-- The lines of a part have pairs where all lines have them.
use Rattle.std.proofs.Common.{ℕ, Bool, List, sym, ap, ◌∙◌, arith}
use Rattle.std.specs.Prelude.{filter}
use Rattle.execution_laws.specs.Legality.{SubmittedOnce}
use Rattle.fronts.specs.Fronts.{AcceptedLater}
use Rattle.fronts.specs.Parts.{AreOwn}
use Rattle.lemmas.proofs.Ranks.{rank, passes_at, comes_from, rank_passes}
use Rattle.nop_types.specs.Legality.{AcceptedOnce}
use Rattle.nop_types.specs.Lines.{Line, Submit, Accept}

module _ (lines : List Line) (own : Line → Bool) where
  pub submitted_once : SubmittedOnce lines → SubmittedOnce (filter own lines)
  submitted_once once k l p q g h same =
      let x = comes_from own lines k (Submit p) g in
      let y = comes_from own lines l (Submit q) h in
      sym x.ranks ∙ ap (rank own lines) (once x.place y.place p q x.stands y.stands same) ∙ y.ranks

  pub accepted_once : AcceptedOnce lines → AcceptedOnce (filter own lines)
  accepted_once once k l client id a b g h =
      let x = comes_from own lines k (Accept client id a) g in
      let y = comes_from own lines l (Accept client id b) h in
      sym x.ranks ∙ ap (rank own lines) (once x.place y.place client id a b x.stands y.stands) ∙ y.ranks

  pub accepted_later : (mine : List ℕ → Bool) → AreOwn lines mine own → AcceptedLater lines → AcceptedLater (filter own lines)
  accepted_later mine are later k client id result h =
      let x = comes_from own lines k (Accept client id result) h in
      let s = later x.place client id result x.stands in
      let is_mine = sym (are.accepts client id result s.request (s.place, s.line) s.same) ∙ x.passes in
      let e = are.submits s.request ∙ is_mine in
      record {
        place = rank own lines s.place;
        before = let r = rank_passes own lines s.place x.place (Submit s.request) s.line e s.before in omega (arith, r, x.ranks);
        request = s.request;
        line = passes_at own lines s.place (Submit s.request) s.line e;
        same = s.same;
      }
