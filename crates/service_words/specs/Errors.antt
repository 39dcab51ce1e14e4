-- What the errors of the parts become.
use Rattle.line_reader.specs.declared.read_error.ReadError.{ReadError}
use Rattle.line_reader.specs.declared.read_error.ReadError.TheVariants as reads
use Rattle.outside.specs.declared.errors.DeviceError.{DeviceError}
use Rattle.outside.specs.declared.errors.DeviceError.TheVariants as devices
use Rattle.service_words.specs.declared.error.WordsError.{WordsError}
use Rattle.service_words.specs.declared.error.WordsError.TheVariants.{Refused, ReadFault, WriteFault, NoMemory}

abbrev pub of_reader : ReadError → WordsError
of_reader reads.ReadFault = ReadFault
of_reader reads.NoMemory = NoMemory

abbrev pub of_sink : DeviceError → WordsError
of_sink devices.Failed = WriteFault
of_sink devices.NoMemory = NoMemory
