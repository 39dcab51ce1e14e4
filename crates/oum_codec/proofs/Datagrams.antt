-- Whole datagrams: what was spelled is read, and what is read is spelled.
use Rattle.std.proofs.Common.{◌≡◌, ℕ, Bool, true, false, cond, eqb, List, [], ◌∷◌, ◌++◌, Result, Ok, Err, refl, sym, ap, ◌∙◌, arith, inl}
use Rattle.std.proofs.Common.{inr, ◌⊎◌}
use Rattle.std.specs.Prelude.{IfOk, not, ◌&&◌}
use Rattle.std.proofs.lemmas.Bool.{eqb-true}
use Rattle.std.proofs.lemmas.Bool.Decides.{nat_tests}
use Rattle.nop_types.specs.Ranges.{DatagramFits}
use Rattle.nop_types.specs.declared.datagram.Datagram.{Datagram}
use Rattle.nop_types.specs.declared.datagram.Datagram.TheVariants as datagrams
use Rattle.oum_codec.specs.declared.bad.Bad.{Bad}
use Rattle.oum_codec.specs.declared.bad.Bad.TheVariants.{Short, Magic, Version, Kind, Field, Trailing, NoMemory}
use Rattle.oum_codec.specs.Numbers.{IsBytes}
use Rattle.oum_codec.specs.Spelling.{header, spelling, Spells}
use Rattle.oum_codec.specs.Reading.{Gives, request_of, stamped_of, reply_of, fragment_of, read_of, answer_of, body_of, reading}
use Rattle.oum_codec.proofs.Steps.{ok_is, guard_ok}
use Rattle.oum_codec.proofs.Numbers.{IsBytes-rest}
use Rattle.oum_codec.proofs.EachKind.{request_takes, request_again, stamped_takes, stamped_again, reply_takes, reply_again, install_as}
use Rattle.oum_codec.proofs.EachKind.{install_as_takes, install_again, ping_as, ping_as_takes, ping_again, fragment_takes, fragment_again}
use Rattle.oum_codec.proofs.EachKind.{read_takes, read_again, answer_takes, answer_again}

-- the first of two readings, where its test holds, else the second
chosen : (b : Bool) (x y z : Result Datagram Bad) → cond b x y ≡ z → ((b ≡ true) × (x ≡ z)) ⊎ ((b ≡ false) × (y ≡ z))
chosen true x y z e = inl (refl, e)
chosen false x y z e = inr (refl, e)

body_takes : (kind : ℕ) (rest : List ℕ) (d : Datagram) → IsBytes rest → body_of kind rest ≡ Ok d
    → DatagramFits d × (header kind ++ rest ≡ spelling d)
body_takes kind rest d fits e =
    elim (chosen (eqb kind 1) (request_of rest) _ (Ok d) e) [
      | inl here ↦ rw (eqb-true _ _ here.0) (request_takes rest d fits here.1)
      | inr next ↦ elim (chosen (eqb kind 2) (stamped_of rest) _ (Ok d) next.1) [
        | inl here ↦ rw (eqb-true _ _ here.0) (stamped_takes rest d fits here.1)
        | inr next ↦ elim (chosen (eqb kind 3) (reply_of rest) _ (Ok d) next.1) [
          | inl here ↦ rw (eqb-true _ _ here.0) (reply_takes rest d fits here.1)
          | inr next ↦ elim (chosen (eqb kind 4) (install_as datagrams.Install rest) _ (Ok d) next.1) [
            | inl here ↦
                rw (eqb-true _ _ here.0) (install_as_takes 4 datagrams.Install rest d (λ i j n h. h) (λ i j n. refl) fits here.1)
            | inr next ↦
                elim (chosen (eqb kind 5) (install_as datagrams.Installed rest) _ (Ok d) next.1) [
                  | inl here ↦
                      rw (eqb-true _ _ here.0) (install_as_takes 5 datagrams.Installed rest d (λ i j n h. h) (λ i j n. refl) fits here.1)
                  | inr next ↦ elim (chosen (eqb kind 6) (ping_as datagrams.Ping rest) _ (Ok d) next.1) [
                    | inl here ↦
                        rw (eqb-true _ _ here.0) (ping_as_takes 6 datagrams.Ping rest d (λ i j n h. h) (λ i j n. refl) fits here.1)
                    | inr next ↦ elim (chosen (eqb kind 7) (ping_as datagrams.Pong rest) _ (Ok d) next.1) [
                      | inl here ↦
                          rw (eqb-true _ _ here.0) (ping_as_takes 7 datagrams.Pong rest d (λ i j n h. h) (λ i j n. refl) fits here.1)
                      | inr next ↦ elim (chosen (eqb kind 8) (fragment_of rest) _ (Ok d) next.1) [
                        | inl here ↦ rw (eqb-true _ _ here.0) (fragment_takes rest d fits here.1)
                        | inr next ↦ elim (chosen (eqb kind 9) (read_of rest) _ (Ok d) next.1) [
                          | inl here ↦ rw (eqb-true _ _ here.0) (read_takes rest d fits here.1)
                          | inr next ↦ elim (chosen (eqb kind 10) (answer_of rest) _ (Ok d) next.1) [
                            | inl here ↦ rw (eqb-true _ _ here.0) (answer_takes rest d fits here.1)
                            | inr none ↦ absurd (let h = none.1 in cc)
                          ]
                        ]
                      ]
                    ]
                  ]
                ]
          ]
        ]
      ]
    ]

pub is_spelled : (bytes : List ℕ) (d : Datagram) → IsBytes bytes → reading bytes ≡ Ok d → Spells d bytes
unfolding reading
is_spelled [] d fits e = absurd cc
is_spelled (a ∷ []) d fits e = absurd cc
is_spelled (a ∷ b ∷ []) d fits e = absurd cc
is_spelled (a ∷ b ∷ c ∷ []) d fits e = absurd cc
is_spelled (a ∷ b ∷ c ∷ kind ∷ rest) d fits e =
    let magic = guard_ok (not (eqb a 0x4e && eqb b 0x4f)) Magic _ d e in
    let version = guard_ok (not (eqb c 3)) Version _ d magic.1 in
    let t =
    body_takes kind rest d (IsBytes-rest kind rest
    (IsBytes-rest c (kind ∷ rest) (IsBytes-rest b (c ∷ kind ∷ rest) (IsBytes-rest a (b ∷ c ∷ kind ∷ rest) fits)))) version.1 in
    let is_a : a ≡ 0x4e = grind (arith, nat_tests, magic.0) in
    let is_b : b ≡ 0x4f = grind (arith, nat_tests, magic.0) in
    let is_c : c ≡ 3 = grind (arith, nat_tests, version.0) in
    record { fits = t.0; spelled = rw (is_a, is_b, is_c) t.1 }

pub reads_again : (d : Datagram) → DatagramFits d → reading (spelling d) ≡ Ok d
unfolding reading
reads_again (datagrams.Request r) fits = request_again r fits
reads_again (datagrams.Stamped s) fits = stamped_again s fits
reads_again (datagrams.Reply r) fits = reply_again r fits
reads_again (datagrams.Install controller sequencer session) fits = rw (install_again controller sequencer session fits) refl
reads_again (datagrams.Installed controller sequencer session) fits = rw (install_again controller sequencer session fits) refl
reads_again (datagrams.Ping controller sequencer round) fits = rw (ping_again controller sequencer round fits) refl
reads_again (datagrams.Pong controller sequencer round) fits = rw (ping_again controller sequencer round fits) refl
reads_again (datagrams.Fragment f) fits = fragment_again f fits
reads_again (datagrams.Read r) fits = read_again r fits
reads_again (datagrams.Answer a) fits = answer_again a fits

pub is_found : (bytes : List ℕ) (r : Result Datagram Bad) → IsBytes bytes → Gives r (reading bytes) → IfOk r (λ d. Spells d bytes)
is_found bytes (Ok d) fits given = is_spelled bytes d fits given
is_found bytes (Err e) fits given = tt

pub is_only : (bytes : List ℕ) (r : Result Datagram Bad) (d : Datagram) → Gives r (reading bytes) → Spells d bytes
    → (r ≡ Ok d) ⊎ (r ≡ Err NoMemory)
is_only bytes r d given s = same r (reading bytes) given (ap reading s.spelled ∙ reads_again d s.fits)
  where
    same : (r read : Result Datagram Bad) → Gives r read → read ≡ Ok d → (r ≡ Ok d) ⊎ (r ≡ Err NoMemory)
    same (Ok x) read given e = inl (sym given ∙ e)
    same (Err NoMemory) read given e = inr refl
    same (Err Short) read given e = absurd cc
    same (Err Magic) read given e = absurd cc
    same (Err Version) read given e = absurd cc
    same (Err Kind) read given e = absurd cc
    same (Err Field) read given e = absurd cc
    same (Err Trailing) read given e = absurd cc

pub spelling_is_injective : (c d : Datagram) → DatagramFits c → DatagramFits d → spelling c ≡ spelling d → c ≡ d
spelling_is_injective c d first second same = ok_is c d (sym (reads_again c first) ∙ ap reading same ∙ reads_again d second)
