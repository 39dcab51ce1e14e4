-- A drop in front stands below the last number.
use Rattle.std.proofs.Common.{◌≡◌, ◌<◌, arith}
use Rattle.nop_types.specs.declared.limits.TheConstants.{NUMBER_END}
use Rattle.oum_receiver.specs.Front.{Front, Nothing, Dropped}
use Rattle.oum_receiver.specs.Receiving.{Receiving, IsSound, front_of}
use Rattle.oum_receiver.proofs.Sound.{taken_sound}

drop_is_some : (f : Front) → f ≡ Dropped → f ≡ Nothing → ⊥
drop_is_some f e h = cc

-- at a drop there is a number after the next one
pub drop_is_below : (r : Receiving) → IsSound r → front_of r ≡ Dropped → r.next < NUMBER_END
drop_is_below r sound drop = let taken = taken_sound r sound (drop_is_some (front_of r) drop) in let high = taken.next in omega arith
