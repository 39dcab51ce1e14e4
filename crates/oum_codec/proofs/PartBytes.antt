-- The parts of messages are told by their bytes: a fragment's kind and count stand where `IsPart` reads them.
use Rattle.std.proofs.Common.{◌≡◌, ◌≢◌, ◌↔◌, ℕ, ◌<◌, ◌≤◌, ◌^◌, [], ◌∷◌, length, take, drop, refl, sym, ap, ◌∙◌, arith}
use Rattle.std.specs.Int.{w16, from_be_bytes}
use Rattle.nop_types.specs.Parts.{IsPart}
use Rattle.nop_types.specs.Ranges.{DatagramFits, FragmentFits}
use Rattle.nop_types.specs.declared.datagram.Datagram.{Datagram}
use Rattle.nop_types.specs.declared.datagram.Datagram.TheVariants as datagrams
use Rattle.nop_types.specs.declared.datagram.Fragment.{Fragment}
use Rattle.oum_codec.specs.Numbers.{be_bytes}
use Rattle.oum_codec.specs.Spelling.{IsPartOfSeveral, spelling}
use Rattle.oum_codec.proofs.Numbers.{wide16}

-- where the count stands
count_here : (f : Fragment) → take 2 (drop 15 (spelling (datagrams.Fragment f))) ≡ be_bytes w16 f.count
unfolding be_bytes
count_here f = refl

-- a count of 1 alone has these bytes
one_is : (n : ℕ) → n < 2 ^ 16 → be_bytes w16 n ≡ 0 ∷ 1 ∷ [] → n ≡ 1
one_is n fits e = sym (wide16.again n fits) ∙ ap (from_be_bytes w16) e

one_spelled : be_bytes w16 1 ≡ 0 ∷ 1 ∷ []
unfolding be_bytes
one_spelled = refl

longer : (f : Fragment) → 1 ≤ length f.payload → 17 < length (spelling (datagrams.Fragment f))
unfolding be_bytes
longer f some = omega arith

fragments_told : (f : Fragment) → FragmentFits f → IsPart (spelling (datagrams.Fragment f)) ↔ (f.count ≢ 1)
fragments_told f fits = (
  λ part one. part.count (count_here f ∙ ap (be_bytes w16) one ∙ one_spelled),
  λ several. record {
    kind = refl;
    payload = longer f fits.some;
    count = λ e. several (one_is f.count (omega (arith, fits.count)) (sym (count_here f) ∙ e));
  },
)

pub parts_are_told : (d : Datagram) → DatagramFits d → IsPart (spelling d) ↔ IsPartOfSeveral d
parts_are_told (datagrams.Fragment f) fits = fragments_told f fits
parts_are_told _ fits = (λ part. absurd (let h = part.kind in cc), λ none. absurd none)
