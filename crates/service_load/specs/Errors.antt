-- What the faults of devices become.
use Rattle.outside.specs.declared.errors.DeviceError.{DeviceError}
use Rattle.outside.specs.declared.errors.DeviceError.TheVariants as devices
use Rattle.service_load.specs.declared.errors.LoadError.{LoadError}
use Rattle.service_load.specs.declared.errors.LoadError.TheVariants.{PortFault, LinkFault, NoMemory}

abbrev pub port_fault : DeviceError → LoadError
port_fault devices.Failed = PortFault
port_fault devices.NoMemory = NoMemory

abbrev pub link_fault : DeviceError → LoadError
link_fault devices.Failed = LinkFault
link_fault devices.NoMemory = NoMemory
