-- What an actor gave without entries that moved out of a log.
use Rattle.std.proofs.Common.{◌≡◌, ℕ, ◌+◌, ◌++◌, List, [], ◌∷◌, Option, Some, None, Result, Ok, IfSome, IsTrue, refl, sym, ap, ◌∙◌}
use Rattle.std.specs.Prelude.{length, option_map}
use Rattle.std.specs.List.{list_all}
use Rattle.nop_types.specs.Lines as lines
use Rattle.nop_types.specs.Lines.{Line}
use Rattle.nop_types.specs.declared.output.Actor.{Actor}
use Rattle.nop_types.specs.declared.output.Actor.TheVariants as actors
use Rattle.nop_types.specs.declared.output.Out.{Out}
use Rattle.nop_types.specs.declared.output.Out.TheVariants as outs
use Rattle.network.specs.Network.{Sent, did_of, sends_by, lines_from, lines_by}
use Rattle.world.specs.Actors.{moved_out, Gives}
use Rattle.world.specs.Untrimmed.{has_line, untrimmed}
use Rattle.world.specs.WorldSteps.{WorldState, Happened, Refusal, carried}

-- the lines are those of all outputs
pub lines_from-untrimmed : (from : Actor) (n : ℕ) (os : List Out) → lines_from from n (untrimmed os) ≡ lines_from from n os
lines_from-untrimmed from n [] = refl
lines_from-untrimmed from n (outs.Send dest bytes ∷ os) =
    ap (λ (l : List Line). lines.Send n from dest bytes ∷ l) (lines_from-untrimmed from (n + 1) os)
lines_from-untrimmed from n (outs.Submitted r ∷ os) = ap (λ (l : List Line). lines.Submit r ∷ l) (lines_from-untrimmed from n os)
lines_from-untrimmed from n (outs.Accepted client id result ∷ os) =
    ap (λ (l : List Line). lines.Accept client id result ∷ l) (lines_from-untrimmed from n os)
lines_from-untrimmed from n (outs.Busy client ∷ os) = ap (λ (l : List Line). lines.Busy client ∷ l) (lines_from-untrimmed from n os)
lines_from-untrimmed from n (outs.Reading client id observer key ∷ os) =
    ap (λ (l : List Line). lines.Read client id observer key ∷ l) (lines_from-untrimmed from n os)
lines_from-untrimmed from n (outs.Answered client id observer position result ∷ os) =
    ap (λ (l : List Line). lines.Answer client id observer position result ∷ l) (lines_from-untrimmed from n os)
lines_from-untrimmed from n (outs.Trimmed first entries ∷ os) = lines_from-untrimmed from n os

pub lines_by-untrimmed : (from : Actor) (n : ℕ) (did : Option (List Out))
    → lines_by from n (did_of (option_map untrimmed did)) ≡ lines_by from n (did_of did)
lines_by-untrimmed from n None = refl
lines_by-untrimmed from n (Some os) = lines_from-untrimmed from n os

each_has_line : (os : List Out) → IsTrue (list_all has_line (untrimmed os))
each_has_line [] = refl
each_has_line (outs.Trimmed first entries ∷ os) = each_has_line os
each_has_line (_ ∷ os) = each_has_line os

pub have_lines : (did : Option (List Out)) → IfSome (option_map untrimmed did) (λ os. IsTrue (list_all has_line os))
have_lines None = tt
have_lines (Some os) = each_has_line os

-- sent first, then moved out
moved_after : (actor : Actor) (did : Option (List Out)) (w : WorldState) (sent : List Sent)
    → moved_out actor (did_of did) (record w { sent = sent }) ≡ record (moved_out actor (did_of did) w) { sent = sent }
moved_after (actors.Replica i) did w sent = refl
moved_after _ did w sent = refl

-- what a step did, carried out without lines
pub gives : (r : Result Happened Refusal) (actor : Actor) (old mid new : WorldState) (did rest : Option (List Out))
    → r ≡ Ok (carried old actor (did_of did) (moved_out actor (did_of did) mid))
    → new ≡ moved_out actor (did_of did) (record mid { sent = old.sent ++ sends_by actor (did_of did) })
    → rest ≡ option_map untrimmed did → Gives r actor old new rest
gives r actor old mid new did rest is moved same = record {
  is = is ∙ ap (λ (w : WorldState). Ok (record { world = w; lines = lines_by actor (length old.sent) (did_of did) }))
      (sym (moved ∙ moved_after actor did mid (old.sent ++ sends_by actor (did_of did))))
      ∙ ap (λ (l : List Line). Ok (record { world = new; lines = l }))
      (sym (lines_by-untrimmed actor (length old.sent) did) ∙ ap (λ (o : Option (List Out)). lines_by actor (length old.sent) (did_of o)) (sym same));
  have_lines = rw same (have_lines did);
}
