-- A client that is asked for no key acts as its requests do.
use Rattle.std.proofs.Common.{◌≡◌, ℕ, refl, ap, subst, ◌∙◌, List, [], ◌∷◌, ◌++◌, append-nil, Bool, true, false, Option, None}
use Rattle.std.specs.Prelude.{◌&&◌, is_none}
use Rattle.nop_types.specs.Configuration.{Configuration}
use Rattle.nop_types.specs.Given.{Given}
use Rattle.nop_types.specs.declared.output.Out.{Out}
use Rattle.client_reads.specs.declared.state.Reading.{Reading}
use Rattle.client_reads.specs.declared.state.Reads.{Reads}
use Rattle.client_reads.specs.ReadSteps as reads
use Rattle.client_reads.specs.Rows.{Row, Rests, SaysBusy, Asks, Repeats, Ends}
use Rattle.client_reads.proofs.RowLemmas.{row_of}
use Rattle.client_quorum.specs.declared.state.ClientState.{ClientState}
use Rattle.client_quorum.specs.ClientSteps as requests
use Rattle.client_quorum.specs.Core as core
use Rattle.client_quorum.specs.Core.{Client, HasNoRead, IsNoRead}
use Rattle.client_quorum.specs.Runs as runs

-- where no read waits and none is asked for, nothing happens
row_rests : (s : Reads) (x : Given) → s.pending ≡ None → IsNoRead x → (y : Reads × List Out) → Row s x y → y ≡ (s, [])
row_rests s x none quiet y (Rests nothing) = refl
row_rests s x none quiet y (SaysBusy observer key is busy) = absurd (subst IsNoRead is quiet)
row_rests s x none quiet y (Asks observer key is may) = absurd (subst IsNoRead is quiet)
row_rests s x none quiet y (Repeats r is e) = absurd cc
row_rests s x none quiet y (Ends r a has e answers) = absurd cc

-- both halves, where the reads give this
abbrev joined : ClientState × List Out → Reads × List Out → Client × List Out
joined a b = (record { requests = a.0; reads = b.0 }, a.1 ++ b.1)

pub step_alone : (s : ClientState) (r : Reads) (x : Given) → r.pending ≡ None → IsNoRead x
    → core.next (record { requests = s; reads = r }) x
    ≡ (record { requests = (requests.next s x).0; reads = r }, (requests.next s x).1)
step_alone s r x none quiet =
    let c : Client = record { requests = (requests.next s x).0; reads = r } in
    ap (joined (requests.next s x)) (row_rests r x none quiet (reads.next r x) (row_of r x))
    ∙ ap (λ (os : List Out). (c, os)) (append-nil (requests.next s x).1)

after_alone : (s : ClientState) (r : Reads) (xs : List Given) → r.pending ≡ None → HasNoRead xs
    → core.after (record { requests = s; reads = r }) xs ≡ record { requests = runs.after s xs; reads = r }
after_alone s r [] none quiet = refl
after_alone s r (x ∷ xs) none quiet =
    ap (λ (y : Client × List Out). core.after y.0 xs) (step_alone s r x none quiet.0)
    ∙ after_alone (requests.next s x).0 r xs none quiet.1

gave_alone : (s : ClientState) (r : Reads) (xs : List Given) → r.pending ≡ None → HasNoRead xs
    → core.gave (record { requests = s; reads = r }) xs ≡ runs.gave s xs
gave_alone s r [] none quiet = refl
gave_alone s r (x ∷ xs) none quiet =
    ap (λ (y : Client × List Out). y.1 ++ core.gave y.0 xs) (step_alone s r x none quiet.0)
    ∙ ap (λ (os : List Out). (requests.next s x).1 ++ os) (gave_alone (requests.next s x).0 r xs none quiet.1)

and_true : (b : Bool) → (b && true) ≡ b
and_true true = refl
and_true false = refl

done_alone : (c : Client) → c.reads.pending ≡ None → core.is_done c ≡ requests.is_done c.requests
done_alone c none =
    ap (λ (o : Option Reading). requests.is_done c.requests && is_none o) none ∙ and_true (requests.is_done c.requests)

-- ---- a run from the opening

module _ (config : Configuration) (number : ℕ) (ops : List (List ℕ)) (inputs : List Given) (quiet : HasNoRead inputs) where
  pub state_alone : core.after (core.opening config number ops) inputs
      ≡ record { requests = runs.after (requests.opening config number ops) inputs; reads = reads.opening number }
  state_alone = after_alone (requests.opening config number ops) (reads.opening number) inputs refl quiet

  pub outs_alone : core.gave (core.opening config number ops) inputs ≡ runs.gave (requests.opening config number ops) inputs
  outs_alone = gave_alone (requests.opening config number ops) (reads.opening number) inputs refl quiet

  pub is_done_alone : core.is_done (core.after (core.opening config number ops) inputs)
      ≡ requests.is_done (runs.after (requests.opening config number ops) inputs)
  is_done_alone =
      ap core.is_done state_alone
      ∙ done_alone (record { requests = runs.after (requests.opening config number ops) inputs; reads = reads.opening number }) refl
