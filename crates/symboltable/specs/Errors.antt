-- Errors of symbol tables as those of the compile calls.
use Rattle.py_scope.specs.declared.error.ScanFault.{ScanFault}
use Rattle.py_scope.specs.declared.error.ScanFault.TheVariants as fault
use Rattle.py_base.specs.declared.errors.CodegenErrorType.{CodegenErrorType}
use Rattle.py_base.specs.declared.errors.CodegenErrorType.TheVariants as error

abbrev pub codegen_error : ScanFault → CodegenErrorType
codegen_error (fault.Text text) = error.SyntaxError text
codegen_error (fault.Malformed shape) = error.MalformedTree shape
codegen_error (fault.TooLarge limit) = error.TooLarge limit
codegen_error fault.OutOfMemory = error.OutOfMemory
