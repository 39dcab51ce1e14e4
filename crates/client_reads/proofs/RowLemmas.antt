-- Each step of a client's reads is a row.
use Rattle.std.proofs.Common.{◌≡◌, ℕ, zero, Bool, true, false, Option, Some, None, refl, sym, List, [], ◌∷◌, subst}
use Rattle.std.specs.Prelude.{Result, Ok, ◌==◌, ◌&&◌, ◌^◌, ◌-◌, is_none, nat_lt}
use Rattle.std.proofs.lemmas.Bool.{and_parts, eqb-true}
use Rattle.nop_types.specs.Given.{Given, Packet, Ticked, Submit, Read}
use Rattle.nop_types.specs.Lists.{Has}
use Rattle.nop_types.specs.declared.input.Tick.{Tick}
use Rattle.nop_types.specs.declared.input.Tick.TheVariants as ticks
use Rattle.nop_types.specs.declared.datagram.Answer.{Answer}
use Rattle.nop_types.specs.declared.datagram.Datagram.{Datagram}
use Rattle.nop_types.specs.declared.datagram.Datagram.TheVariants as datagrams
use Rattle.oum_codec.specs.declared.bad.Bad.{Bad}
use Rattle.oum_codec.specs.Reading.{reading}
use Rattle.lemmas.proofs.Members.{Has-none, Has-one}
use Rattle.client_reads.specs.declared.state.Reading.{Reading}
use Rattle.client_reads.specs.declared.state.Reads.{Reads}
use Rattle.client_reads.specs.ReadSteps.{next, on_tick, on_datagram, can_read, reading_of, ask_if, sent_again}
use Rattle.client_reads.specs.ReadSteps.{is_answer_to, is_expected, answer_if}
use Rattle.client_reads.specs.Rows.{BringsNoAnswer, WaitsForNone, IsForOthers, IsForRequests, Answers}
use Rattle.client_reads.specs.Rows.{Row, Rests, SaysBusy, Asks, Repeats, Ends}
use Rattle.client_reads.specs.Runs.{answer_in, answer_of}

-- no read waits where one may begin
pub none_waits : (s : Reads) → can_read s ≡ true → s.pending ≡ None
none_waits s may = at s.pending (and_parts (is_none s.pending) (nat_lt s.last_id (2 ^ 64 - 1)) may).0
  where
    at : (o : Option Reading) → is_none o ≡ true → o ≡ None
    at None e = refl
    at (Some r) e = absurd cc

-- an expected answer is to the read that waits
answered_read : (number : ℕ) (o : Option Reading) (a : Answer) → is_answer_to number o a ≡ true
    → (r : Reading) × (o ≡ Some r) × Answers number r a
answered_read number None a e = absurd cc
answered_read number (Some r) a e =
    let mine = and_parts (a.client == number) ((a.id == r.id) && (a.observer == r.observer)) e in
    let here = and_parts (a.id == r.id) (a.observer == r.observer) mine.1 in (
      r,
      refl,
      record {
        client = eqb-true a.client number mine.0;
        id = eqb-true a.id r.id here.0;
        observer = eqb-true a.observer r.observer here.1;
      },
    )

module _ (s : Reads) (x : Given) where
  ask_row : (observer : ℕ) (key : List ℕ) → x ≡ Read observer key → (b : Bool) → can_read s ≡ b
      → Row s x (ask_if b s (reading_of s observer key))
  ask_row observer key is true e = Asks observer key is e
  ask_row observer key is false e = SaysBusy observer key is e

  retry_row : x ≡ Ticked ticks.Retry → (o : Option Reading) → s.pending ≡ o → Row s x (s, sent_again s.number o)
  retry_row is None e = Rests (WaitsForNone is e)
  retry_row is (Some r) e = Repeats r is e

  tick_row : (tick : Tick) → x ≡ Ticked tick → Row s x (on_tick s tick)
  tick_row ticks.Retry is = retry_row is s.pending refl
  tick_row other is = Rests (IsForOthers other is refl)

  -- the packet brings this answer, and no other
  answer_row : (bytes : List ℕ) → x ≡ Packet bytes → (a : Answer) → answer_of x ≡ a ∷ [] → (b : Bool) → is_expected s a ≡ b
      → Row s x (answer_if b s a)
  answer_row bytes is a brings true e =
      let read = answered_read s.number s.pending a e in
      Ends read.0 a (subst (λ (xs : List Answer). Has xs a) (sym brings) (zero, refl)) read.1 read.2
  answer_row bytes is a brings false e =
      Rests (BringsNoAnswer bytes is (λ k h.
      subst (λ (r : Answer). is_expected s r ≡ false) (sym (Has-one k a (subst (λ (xs : List Answer). Has xs k) brings h))) e))

  packet_row : (bytes : List ℕ) → x ≡ Packet bytes → (d : Result Datagram Bad) → answer_of x ≡ answer_in d → Row s x (on_datagram s d)
  packet_row bytes is (Ok (datagrams.Answer a)) brings = answer_row bytes is a brings (is_expected s a) refl
  packet_row bytes is _ brings =
      Rests (BringsNoAnswer bytes is (λ k h. absurd (Has-none k (subst (λ (xs : List Answer). Has xs k) brings h))))

pub row_of : (s : Reads) (x : Given) → Row s x (next s x)
unfolding next
row_of s (Packet bytes) = packet_row s (Packet bytes) bytes refl (reading bytes) refl
row_of s (Ticked tick) = tick_row s (Ticked tick) tick refl
row_of s (Submit op) = Rests (IsForRequests op refl)
row_of s (Read observer key) = ask_row s (Read observer key) observer key refl (can_read s) refl
