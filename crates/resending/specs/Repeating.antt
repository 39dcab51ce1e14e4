-- The last request for a view change, which a replica's link repeats.
use Rattle.std.specs.Prelude.{◌≡◌, ◌<◌, ℕ, ◌-◌, ◌==◌, ◌&&◌, nat_eq, not, Bool, nat_le, nat_lt, if◌then◌else◌, List, [], ◌∷◌, ◌++◌}
use Rattle.std.specs.Prelude.{drop, length, slice_get, take, Some}
use Rattle.std.specs.List.{list_any}
use Rattle.std.specs.Cmp.Lexicographic.{pointwise}
use Rattle.nop_types.specs.declared.kinds.TheConstants.{COUNT_PLACE, FRAGMENT, FRAGMENT_HEADER_BYTES, KIND_PLACE, VIEW_CHANGE_REQ}
use Rattle.resending.specs.declared.repeats.TheConstants.{MOST_PORTS, REPEAT_MICROS}

-- the request, the ports to which it went, and when it was sent
pub record Repeated : Type 0 where
  pub request : List ℕ
  pub ports : List ℕ
  pub at : ℕ

-- the one fragment of a message of this kind
pub record IsRequest (bytes : List ℕ) : Type 0 where
  pub kind : slice_get bytes KIND_PLACE ≡ Some FRAGMENT
  pub payload : FRAGMENT_HEADER_BYTES < length bytes
  pub alone : take 2 (drop COUNT_PLACE bytes) ≡ 0 ∷ 1 ∷ []
  pub message : slice_get bytes FRAGMENT_HEADER_BYTES ≡ Some VIEW_CHANGE_REQ

abbrev pub no_request : Repeated
no_request = record { request = []; ports = []; at = 0 }

abbrev pub has_port : List ℕ → ℕ → Bool
has_port ports port = list_any (λ p. p == port) ports

-- those to which this request went before
abbrev pub ports_of : Bool → List ℕ → List ℕ
ports_of same ports = if same then ports else []

-- one more, as long as there are few
abbrev pub with_port : ℕ → List ℕ → List ℕ
with_port port ports = if nat_lt (length ports) MOST_PORTS && not (has_port ports port) then ports ++ port ∷ [] else ports

abbrev pub noted : ℕ → List ℕ → ℕ → Repeated → Repeated
noted port bytes now r =
    record { request = bytes; ports = with_port port (ports_of (pointwise nat_eq r.request bytes) r.ports); at = now }

abbrev pub is_due : ℕ → Repeated → Bool
is_due now r = nat_lt 0 (length r.ports) && nat_le REPEAT_MICROS (now - r.at)

abbrev pub repeated : ℕ → Repeated → Repeated
repeated now r = if is_due now r then record r { at = now } else r
