-- Why a gateway ended, by what a device answered.
use Rattle.outside.specs.declared.errors.DeviceError.{DeviceError}
use Rattle.outside.specs.declared.errors.DeviceError.TheVariants as devices
use Rattle.gate.specs.declared.errors.GateError.{GateError}
use Rattle.gate.specs.declared.errors.GateError.TheVariants.{PortFault, LinkFault, UsersFault, NoMemory}

abbrev pub port_fault : DeviceError → GateError
port_fault devices.Failed = PortFault
port_fault devices.NoMemory = NoMemory

abbrev pub link_fault : DeviceError → GateError
link_fault devices.Failed = LinkFault
link_fault devices.NoMemory = NoMemory

abbrev pub users_fault : DeviceError → GateError
users_fault devices.Failed = UsersFault
users_fault devices.NoMemory = NoMemory
