use Rattle.std.proofs.Common.{◌<◌, length, ◌∙◌, arith}
use Rattle.host_list.proofs.Digesting.{next_place}
use Rattle.host_list.proofs.digest.with_addresses.Goals as goal

pub loop-address-preserved : goal.loop-address-preserved
loop-address-preserved c =
    let lt : c.loop-address.address-index < length c.args.addresses.now = omega arith in (
      rw c.with_place-mixed.ensures
          (next_place c.loop-address.mixed c.loop-address.place c.loop-address.address-index c.args.addresses.now _ lt
          ∙ c.loop-address.invariant.0),
      omega arith,
    )
