-- Words of contracts. The status of a command whose drive was not mounted.
use Rattle.edi_image.specs.declared.faults.MountFault.{MountFault}
use Rattle.edi_image.specs.declared.faults.MountFault.TheVariants as mount
use Rattle.edi_statuses.specs.declared.status.Status.{Status}
use Rattle.edi_statuses.specs.declared.status.Status.TheVariants as status

abbrev pub mount_status : MountFault → Status
mount_status mount.Fault = status.DriveFault
mount_status mount.NoMemory = status.NoMemory
mount_status broken = status.BadImage broken
