-- Each core is a client, and what is told of it is what that client gave.
use Rattle.std.proofs.Common.{◌≡◌, ℕ, zero, suc, ◌+◌, Bool, true, false, List, [], ◌∷◌, ◌++◌, Option, Some, None, refl, sym, ap, subst, ◌∙◌, append-nil, arith, inl, inr}
use Rattle.std.specs.Prelude.{◌==◌, ◌⊎◌, slice_get, slice_set}
use Rattle.std.proofs.lemmas.Bool.{eq-eqb, ne_eqb}
use Rattle.nop_types.specs.Configuration.{Configuration}
use Rattle.nop_types.specs.Given.{Given, Submit}
use Rattle.nop_types.specs.declared.output.Out.{Out}
use Rattle.client_quorum.specs.ClientSteps.{can_submit}
use Rattle.client_quorum.specs.Core as client
use Rattle.lemmas.proofs.Places.{slice_get-set_cases}
use Rattle.desk.specs.Desks.{Event, cores_from, left, opening, queued}
use Rattle.desk.specs.Runs.{after, gave, gave_by, gave_if, RanAs}
use Rattle.desk.specs.Submitters as submitters
use Rattle.desk.specs.Submitters.{held_after, labelled, labels, outs_of, submits, submit_tells, takes, tells, ticket_for}
use Rattle.desk.specs.declared.desk_state.DeskState.{DeskState}
use Rattle.desk.specs.declared.submitter.Labelled.{Labelled}
use Rattle.desk.specs.declared.submitter.OpenTicket.{OpenTicket}
use Rattle.desk.specs.declared.submitter.Queued.{Queued}
use Rattle.desk.specs.declared.submitter.Submitter.{Submitter}
use Rattle.desk.proofs.Filling.{Keeps, run_keeps}
use Rattle.desk.proofs.Mapped.{mapped}

-- ---- what is told of a core

gave_append_if : (b : Bool) (out : Out) (xs ys zs : List Out) → xs ≡ ys ++ zs → gave_if b out xs ≡ gave_if b out ys ++ zs
gave_append_if true out xs ys zs e = ap (λ (os : List Out). out ∷ os) e
gave_append_if false out xs ys zs e = e

gave_append : (i : ℕ) (told more : List Labelled) → gave_by i (told ++ more) ≡ gave_by i told ++ gave_by i more
gave_append i [] more = refl
gave_append i (g ∷ told) more =
    gave_append_if (g.core == i) g.out (gave_by i (told ++ more)) (gave_by i told) (gave_by i more) (gave_append i told more)

-- what is told of one core alone
gave_own : (i : ℕ) (held : List OpenTicket) (outs : List Out) → gave_by i (labels i held outs) ≡ outs
gave_own i held [] = refl
gave_own i held (out ∷ outs) =
    ap (λ (b : Bool). gave_if b out (gave_by i (labels i (held_after held out) outs))) (eq-eqb i i refl)
    ∙ ap (λ (os : List Out). out ∷ os) (gave_own i (held_after held out) outs)

gave_none : (i j : ℕ) (held : List OpenTicket) (outs : List Out) → (i ≡ j → ⊥) → gave_by j (labels i held outs) ≡ []
gave_none i j held [] d = refl
gave_none i j held (out ∷ outs) d =
    ap (λ (b : Bool). gave_if b out (gave_by j (labels i (held_after held out) outs))) (ne_eqb i j d) ∙ gave_none i j (held_after held out) outs d

given_own : (i t : ℕ) (outs : List Out) → gave_by i (labelled i t outs) ≡ outs
given_own i t [] = refl
given_own i t (out ∷ outs) =
    ap (λ (b : Bool). gave_if b out (gave_by i (labelled i t outs))) (eq-eqb i i refl) ∙ ap (λ (os : List Out). out ∷ os) (given_own i t outs)

given_none : (i j t : ℕ) (outs : List Out) → (i ≡ j → ⊥) → gave_by j (labelled i t outs) ≡ []
given_none i j t [] d = refl
given_none i j t (out ∷ outs) d =
    ap (λ (b : Bool). gave_if b out (gave_by j (labelled i t outs))) (ne_eqb i j d) ∙ given_none i j t outs d

-- ---- a client takes one more input

after_one : (c : client.Client) (xs : List Given) (x : Given) → client.after c (xs ++ x ∷ []) ≡ (client.next (client.after c xs) x).0
after_one c [] x = refl
after_one c (y ∷ xs) x = after_one (client.next c y).0 xs x

appended : (a b c d : List Out) → b ≡ c ++ d → a ++ b ≡ (a ++ c) ++ d
appended [] b c d e = e
appended (o ∷ a) b c d e = ap (λ (os : List Out). o ∷ os) (appended a b c d e)

gave_one : (c : client.Client) (xs : List Given) (x : Given)
    → client.gave c (xs ++ x ∷ []) ≡ client.gave c xs ++ (client.next (client.after c xs) x).1
gave_one c [] x = append-nil (client.next c x).1
gave_one c (y ∷ xs) x =
    appended (client.next c y).1 (client.gave (client.next c y).0 (xs ++ x ∷ [])) (client.gave (client.next c y).0 xs)
    (client.next (client.after (client.next c y).0 xs) x).1 (gave_one (client.next c y).0 xs x)

one_more : (start state : client.Client) (outs : List Out) (x : Given) → RanAs start outs state
    → RanAs start (outs ++ (client.next state x).1) (client.next state x).0
one_more start state outs x r =
    record {
      inputs = r.inputs ++ x ∷ [];
      ends = after_one start r.inputs x ∙ ap (λ (c : client.Client). (client.next c x).0) r.ends;
      outs = gave_one start r.inputs x ∙ ap (λ (c : client.Client). client.gave start r.inputs ++ (client.next c x).1) r.ends
          ∙ ap (λ (os : List Out). os ++ (client.next state x).1) r.outs;
    }

-- ---- all cores

module _ (config : Configuration) (first : ℕ) where
  abbrev Ran : List Submitter → List Labelled → Type 0
  Ran cores told = (i : ℕ) (s : Submitter) → slice_get cores i ≡ Some s → RanAs (client.opening config (first + i) []) (gave_by i told) s.client.state

  -- one core takes an input, of which this is told
  stepped : (cores : List Submitter) (told more : List Labelled) (i : ℕ) (s s2 : Submitter) (x : Given) → slice_get cores i ≡ Some s
      → s2.client.state ≡ (client.next s.client.state x).0 → gave_by i more ≡ outs_of s x
      → ((j : ℕ) → (i ≡ j → ⊥) → gave_by j more ≡ []) → Ran cores told → Ran (slice_set cores i s2) (told ++ more)
  stepped cores told more i s s2 x at new own none h j c here =
      elim (slice_get-set_cases cores i s2 j c here) [
        | inl (a, b) ↦
            let start = client.opening config (first + i) [] in
            let mine = one_more start s.client.state (gave_by i told) x (h i s at) in
            let outs : gave_by i told ++ (client.next s.client.state x).1 ≡ gave_by i (told ++ more) =
            ap (λ (os : List Out). gave_by i told ++ os) (sym own) ∙ sym (gave_append i told more) in
            let moved = subst (λ (os : List Out). RanAs start os (client.next s.client.state x).0) outs mine in
            let there : RanAs start (gave_by i (told ++ more)) s2.client.state =
            subst (λ (d : client.Client). RanAs start (gave_by i (told ++ more)) d) (sym new) moved in
            subst (λ (k : Submitter). RanAs (client.opening config (first + j) []) (gave_by j (told ++ more)) k.client.state) (sym b)
            (subst (λ (n : ℕ). RanAs (client.opening config (first + n) []) (gave_by n (told ++ more)) s2.client.state) (sym a) there)
        | inr (a, b) ↦
            let same : gave_by j told ≡ gave_by j (told ++ more) =
            sym (append-nil (gave_by j told)) ∙ ap (λ (os : List Out). gave_by j told ++ os) (sym (none j (λ e. a (sym e)))) ∙ sym (gave_append j told more) in
            subst (λ (os : List Out). RanAs (client.opening config (first + j) []) os c.client.state) same (h j c b)
      ]

  keeps_ran : Keeps (λ ops d told. Ran d.cores told)
  keeps_ran =
      record {
        on_take = λ ops d told op h. h;
        on_leave = λ ops d told t h i s at.
            let c = mapped t d.cores i s at in
            subst (λ (k : Submitter). RanAs (client.opening config (first + i) []) (gave_by i told) k.client.state) c.2 (h i c.0 c.1);
        on_come = λ ops d told i s x at h.
            stepped d.cores told (tells i s x) i s (takes s x) x at refl (gave_own i s.held (outs_of s x))
            (λ j e. gave_none i j s.held (outs_of s x) e) h;
        on_submit = λ ops taken cores q qs told i s at may h.
            stepped cores told (submit_tells i s q) i s (submits s q) (Submit q.op) at refl (given_own i q.ticket (outs_of s (Submit q.op)))
            (λ j e. given_none i j q.ticket (outs_of s (Submit q.op)) e) h;
      }

  opened : (count base i : ℕ) (s : Submitter) → slice_get (cores_from config base count) i ≡ Some s
      → s.client.state ≡ client.opening config (base + i) []
  opened zero base i s h = absurd cc
  opened (suc n) base zero s h =
      let same : submitters.opening config base ≡ s = cc in
      let e : base ≡ base + 0 = omega arith in
      ap (λ (c : Submitter). c.client.state) (sym same) ∙ ap (λ (k : ℕ). client.opening config k []) e
  opened (suc n) base (suc i) s h =
      let e : (base + 1) + i ≡ base + suc i = omega arith in
      opened n (base + 1) i s h ∙ ap (λ (k : ℕ). client.opening config k []) e

  pub ran : (count : ℕ) (es : List Event) → Ran (after (opening config first count) es).cores (gave (opening config first count) es)
  ran count es =
      run_keeps (λ ops d told. Ran d.cores told) keeps_ran es [] (opening config first count) []
      (λ i s at. record { inputs = []; ends = sym (opened count first i s at); outs = refl })
