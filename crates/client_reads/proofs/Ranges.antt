-- Each read that is sent is in its ranges.
use Rattle.std.proofs.Common.{◌≡◌, ℕ, ◌<◌, true, Option, refl, subst, inl, inr, arith, List, [], ◌∷◌}
use Rattle.std.specs.Prelude.{◌^◌, ◌-◌, IfSome, is_none, nat_lt}
use Rattle.std.proofs.lemmas.Bool.{and_parts, ltb-true}
use Rattle.nop_types.specs.Given.{Given, Read}
use Rattle.nop_types.specs.Lists.{Has}
use Rattle.nop_types.specs.declared.output.Dest.{Dest}
use Rattle.nop_types.specs.declared.output.Dest.TheVariants.{One}
use Rattle.nop_types.specs.declared.output.Actor.TheVariants.{Observer}
use Rattle.nop_types.specs.declared.output.Out.{Out}
use Rattle.nop_types.specs.declared.output.Out.TheVariants as outs
use Rattle.nop_types.specs.declared.output.Out.TheVariants.{Send, Busy, Answered}
use Rattle.nop_types.specs.declared.datagram.Datagram.TheVariants as datagrams
use Rattle.oum_codec.specs.Spelling.{spelling}
use Rattle.lemmas.proofs.Members.{Has-append_cases, Has-cases, Has-none, Has-one}
use Rattle.client_reads.specs.declared.state.Reading.{Reading}
use Rattle.client_reads.specs.declared.state.Reads.{Reads}
use Rattle.client_reads.specs.ReadSteps.{can_read, IsWithin, next, opening, reading_of, ReadingFits, sent}
use Rattle.client_reads.specs.Rows.{Row, Rests, SaysBusy, Asks, Repeats, Ends}
use Rattle.client_reads.specs.Runs.{gave, IsRead, KeyFits, KeysFit}
use Rattle.client_reads.proofs.RowLemmas.{row_of}

-- the read that begins fits
reading_fits : (s : Reads) (observer : ℕ) (key : List ℕ) → KeyFits (Read observer key) → can_read s ≡ true
    → ReadingFits (reading_of s observer key)
reading_fits s observer key fits may =
    let left = ltb-true s.last_id (2 ^ 64 - 1) (and_parts (is_none s.pending) (nat_lt s.last_id (2 ^ 64 - 1)) may).1 in
    record { id_low = omega arith; id = omega (arith, left); some = fits.0; most = fits.1 }

row_within : (s : Reads) (x : Given) → IsWithin s → KeyFits x → (y : Reads × List Out) → Row s x y → IsWithin y.0
row_within s x within fits y (Rests nothing) = within
row_within s x within fits y (SaysBusy observer key is busy) = within
row_within s x within fits y (Asks observer key is may) =
    let begun = reading_fits s observer key (subst KeyFits is fits) may in
    record { number = within.number; last_id = begun.id; pending = begun }
row_within s x within fits y (Repeats r is e) = within
row_within s x within fits y (Ends r a has e answers) = record { number = within.number; last_id = within.last_id; pending = tt }

sent_fits : (number : ℕ) (r : Reading) → number < 2 ^ 32 → ReadingFits r → (dest : Dest) (bytes : List ℕ)
    → Send dest bytes ≡ sent number r → IsRead number dest bytes
sent_fits number r small fits dest bytes e =
    let to : dest ≡ One (Observer r.observer) = cc in
    let spelled : bytes ≡ spelling (datagrams.Read (record { client = number; id = r.id; key = r.key })) = cc in
    record {
      observer = r.observer;
      id = r.id;
      key = r.key;
      to = to;
      spells = record {
        fits = record { client = small; id_low = fits.id_low; id = fits.id; some = fits.some; most = fits.most };
        spelled = spelled;
      };
    }

row_sends : (s : Reads) (x : Given) → IsWithin s → KeyFits x → (y : Reads × List Out) → Row s x y → (dest : Dest) (bytes : List ℕ)
    → Has y.1 (Send dest bytes) → IsRead s.number dest bytes
row_sends s x within fits y (Rests nothing) dest bytes h = absurd (Has-none (Send dest bytes) h)
row_sends s x within fits y (SaysBusy observer key is busy) dest bytes h =
    absurd (let same = Has-one (Send dest bytes) (Busy s.number) h in cc)
row_sends s x within fits y (Asks observer key is may) dest bytes h =
    let r = reading_of s observer key in
    elim (Has-cases (Send dest bytes) (outs.Reading s.number r.id r.observer r.key) (sent s.number r ∷ []) h) [
      | inl e ↦ absurd cc
      | inr g ↦
          let begun = reading_fits s observer key (subst KeyFits is fits) may in
          sent_fits s.number r within.number begun dest bytes (Has-one (Send dest bytes) (sent s.number r) g)
    ]
row_sends s x within fits y (Repeats r is e) dest bytes h =
    sent_fits s.number r within.number (subst (λ (o : Option Reading). IfSome o ReadingFits) e within.pending) dest bytes
    (Has-one (Send dest bytes) (sent s.number r) h)
row_sends s x within fits y (Ends r a has e answers) dest bytes h =
    absurd (let same = Has-one (Send dest bytes) (Answered s.number a.id a.observer a.position a.result) h in cc)

row_number : (s : Reads) (x : Given) (y : Reads × List Out) → Row s x y → y.0.number ≡ s.number
row_number s x y (Rests nothing) = refl
row_number s x y (SaysBusy observer key is busy) = refl
row_number s x y (Asks observer key is may) = refl
row_number s x y (Repeats r is e) = refl
row_number s x y (Ends r a has e answers) = refl

-- ---- a step, and a run

pub stays_within : (s : Reads) (x : Given) → IsWithin s → KeyFits x → IsWithin (next s x).0
stays_within s x within fits = row_within s x within fits (next s x) (row_of s x)

pub step_sends : (s : Reads) (x : Given) → IsWithin s → KeyFits x → (dest : Dest) (bytes : List ℕ) → Has (next s x).1 (Send dest bytes)
    → IsRead s.number dest bytes
step_sends s x within fits = row_sends s x within fits (next s x) (row_of s x)

sends_from : (xs : List Given) (s : Reads) → IsWithin s → KeysFit xs → (dest : Dest) (bytes : List ℕ) → Has (gave s xs) (Send dest bytes)
    → IsRead s.number dest bytes
sends_from [] s within fits dest bytes h = absurd (Has-none (Send dest bytes) h)
sends_from (x ∷ xs) s within fits dest bytes h =
    elim (Has-append_cases (next s x).1 (gave (next s x).0 xs) (Send dest bytes) h) [
      | inl now ↦ step_sends s x within fits.0 dest bytes now
      | inr rest ↦
          subst (λ (n : ℕ). IsRead n dest bytes) (row_number s x (next s x) (row_of s x))
          (sends_from xs (next s x).0 (stays_within s x within fits.0) fits.1 dest bytes rest)
    ]

pub run_sends : (number : ℕ) (inputs : List Given) → number < 2 ^ 32 → KeysFit inputs → (dest : Dest) (bytes : List ℕ)
    → Has (gave (opening number) inputs) (Send dest bytes) → IsRead number dest bytes
run_sends number inputs small fits =
    sends_from inputs (opening number) (record { number = small; last_id = omega arith; pending = tt }) fits
