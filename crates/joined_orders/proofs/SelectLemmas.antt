-- The places of a part among claims, by the number of the claims.
use Rattle.std.proofs.Common.{◌≡◌, ℕ, ◌+◌, ◌<◌, ◌∷◌, [], ◌++◌, Bool, List, Option, Some, length, take, get_or, sym, ap, ◌∙◌}
use Rattle.std.specs.Borrow.{Bor}
use Rattle.std.specs.Prelude.{slice_get, filter}
use Rattle.std.proofs.lemmas.List.{map_push, take_more}
use Rattle.std.proofs.lemmas.Option.{slice_get-get_or}
use Rattle.joined_orders.proofs.Chosen.{chosen_at, length-places, members-append, members_where}
use Rattle.joined_orders.specs.Owning.{places_where, one_of, members_at}
use Rattle.nop_types.specs.Lines.{Line}
use Rattle.pairs.proofs.SaidLemmas.{length_said}
use Rattle.pairs.specs.Said.{said_by}
use Rattle.transcript_reader.specs.Claims.{line_of}
use Rattle.transcript_reader.specs.declared.claim.Claim.{Claim}

-- one claim more
pub chosen_more : (claims chosen : List (Bor Claim)) (places : List ℕ) (i d : ℕ) (claim : Bor Claim) → i < length places
    → said_by chosen ≡ members_at (said_by claims) (take i places)
    → slice_get (said_by claims) (get_or places i d) ≡ Some (line_of claim.now)
    → said_by (chosen ++ claim ∷ []) ≡ members_at (said_by claims) (take (i + 1) places)
chosen_more claims chosen places i d claim l e h =
    let lines = said_by claims in
    let n = get_or places i d in
    let one : members_at lines (n ∷ []) ≡ line_of claim.now ∷ [] = ap (λ (t : Option Line). one_of t ++ []) h in
    map_push (λ (c : Bor Claim). line_of c.now) chosen claim
    ∙ ap (λ (t : List Line). t ++ line_of claim.now ∷ []) e
    ∙ ap (λ (t : List Line). members_at lines (take i places) ++ t) (sym one)
    ∙ sym (members-append lines (take i places) (n ∷ []))
    ∙ ap (λ (t : List ℕ). members_at lines t) (sym (take_more places i d l))

module _ (claims : List (Bor Claim)) (own : Line → Bool) (places : List ℕ)
    (are : places ≡ places_where own (said_by claims) (length claims)) where
  -- by the number of lines
  pub by_lines : places ≡ places_where own (said_by claims) (length (said_by claims))
  by_lines = are ∙ ap (λ (t : ℕ). places_where own (said_by claims) t) (sym (length_said claims))

  pub below : (k d : ℕ) → k < length places → get_or places k d < length claims
  below k d l =
      let at = slice_get-get_or places k d l in
      (chosen_at own (said_by claims) (length claims) k (get_or places k d) (ap (λ (t : List ℕ). slice_get t k) (sym are) ∙ at)).below

  pub members_own : members_at (said_by claims) places ≡ filter own (said_by claims)
  members_own = ap (λ (t : List ℕ). members_at (said_by claims) t) by_lines ∙ members_where own (said_by claims)

  pub length-own : length places ≡ length (filter own (said_by claims))
  length-own = ap length by_lines ∙ length-places own (said_by claims)
