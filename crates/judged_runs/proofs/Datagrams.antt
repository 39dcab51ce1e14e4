-- The kind and the length of a datagram, as a line of a transcript has them.
use Rattle.std.proofs.Common.{◌≡◌, ◌≤◌, ℕ, List, length, slice_index, refl, sym, subst, arith, length-append}
use Rattle.std.specs.Int.{w16, w32, w64}
use Rattle.nop_types.specs.Ranges.{DatagramFits}
use Rattle.nop_types.specs.declared.datagram.Datagram.{Datagram}
use Rattle.nop_types.specs.declared.datagram.Datagram.TheVariants as datagrams
use Rattle.nop_types.specs.declared.kinds.TheConstants.{REQUEST, ANSWER}
use Rattle.oum_codec.specs.Numbers.{be_bytes}
use Rattle.oum_codec.specs.Spelling.{spelling}
use Rattle.network_laws.specs.Network.{IsDatagram}
use Rattle.transcript_rows.specs.declared.row.TheConstants.{MAX_SENT_BYTES}

pub record IsSpelled (bytes : List ℕ) : Type 0 where
  pub least : REQUEST ≤ slice_index bytes 3
  pub most : slice_index bytes 3 ≤ ANSWER
  pub short : length bytes ≤ MAX_SENT_BYTES

len16 : (n : ℕ) → length (be_bytes w16 n) ≡ 2
unfolding be_bytes
len16 n = refl

len32 : (n : ℕ) → length (be_bytes w32 n) ≡ 4
unfolding be_bytes
len32 n = refl

len64 : (n : ℕ) → length (be_bytes w64 n) ≡ 8
unfolding be_bytes
len64 n = refl

spelling_is : (d : Datagram) → DatagramFits d → IsSpelled (spelling d)
spelling_is (datagrams.Request r) fits = record {
  least = omega arith;
  most = omega arith;
  short = simp (length-append, len16, len32, len64) (omega (arith, fits.op));
}
spelling_is (datagrams.Stamped s) fits = record {
  least = omega arith;
  most = omega arith;
  short = simp (length-append, len16, len32, len64) (omega (arith, fits.request.op));
}
spelling_is (datagrams.Reply r) fits = record {
  least = omega arith;
  most = omega arith;
  short = simp (length-append, len16, len32, len64) (omega (arith, fits.result_length));
}
spelling_is (datagrams.Install k j session) fits = record {
  least = omega arith;
  most = omega arith;
  short = simp (length-append, len16, len32, len64) (omega arith);
}
spelling_is (datagrams.Installed k j session) fits = record {
  least = omega arith;
  most = omega arith;
  short = simp (length-append, len16, len32, len64) (omega arith);
}
spelling_is (datagrams.Ping k j round) fits = record {
  least = omega arith;
  most = omega arith;
  short = simp (length-append, len16, len32, len64) (omega arith);
}
spelling_is (datagrams.Pong k j round) fits = record {
  least = omega arith;
  most = omega arith;
  short = simp (length-append, len16, len32, len64) (omega arith);
}
spelling_is (datagrams.Fragment f) fits = record {
  least = omega arith;
  most = omega arith;
  short = simp (length-append, len16, len32, len64) (omega (arith, fits.most));
}
spelling_is (datagrams.Read r) fits = record {
  least = omega arith;
  most = omega arith;
  short = simp (length-append, len16, len32, len64) (omega (arith, fits.most));
}
spelling_is (datagrams.Answer a) fits = record {
  least = omega arith;
  most = omega arith;
  short = simp (length-append, len16, len32, len64) (omega (arith, fits.result_length));
}

pub datagram_is : (bytes : List ℕ) → IsDatagram bytes → IsSpelled bytes
datagram_is bytes d = subst IsSpelled (sym d.spells.spelled) (spelling_is d.datagram d.spells.fits)
