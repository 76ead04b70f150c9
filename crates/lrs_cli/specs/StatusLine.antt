-- The line and the number of each answer of the program.
use Rattle.std.specs.Prelude.{ℕ, List, ◌++◌, codes, decimal}
use Rattle.poly_reader.specs.declared.bad.BadKind.{BadKind}
use Rattle.poly_reader.specs.declared.bad.BadKind.TheVariants as kinds
use Rattle.row_printer.specs.OverflowText.{overflow_text}
use Rattle.lrs_cli.specs.declared.status.Status.{Status}
use Rattle.lrs_cli.specs.declared.status.Status.TheVariants.{Done, Usage, BadFile, BadJob, Infeasible, Overflow as Overflowed, ReadFault, WriteFault, DiskFault, Lost, NoRun, HasRun, BadLedger, LedgerLimit, OutOfMemory}

-- the name of what is wrong with a file
abbrev pub kind_text : BadKind → List ℕ
kind_text kinds.TooLong = codes "TooLong"
kind_text kinds.BadLinearity = codes "BadLinearity"
kind_text kinds.NoBegin = codes "NoBegin"
kind_text kinds.BadHeader = codes "BadHeader"
kind_text kinds.TooManyRows = codes "TooManyRows"
kind_text kinds.BadWidth = codes "BadWidth"
kind_text kinds.UnsupportedType = codes "UnsupportedType"
kind_text kinds.ShortData = codes "ShortData"
kind_text kinds.LongData = codes "LongData"
kind_text kinds.BadNumber = codes "BadNumber"
kind_text kinds.ZeroDenominator = codes "ZeroDenominator"
kind_text kinds.WideNumber = codes "WideNumber"
kind_text kinds.NoEnd = codes "NoEnd"
kind_text kinds.MisplacedLinearity = codes "MisplacedLinearity"
kind_text kinds.MisplacedNonnegative = codes "MisplacedNonnegative"
kind_text kinds.NoRows = codes "NoRows"
kind_text kinds.BadFirst = codes "BadFirst"
kind_text kinds.LinearPoint = codes "LinearPoint"
kind_text kinds.WideRow = codes "WideRow"

unfoldable pub status_text : Status → List ℕ
status_text (Done rows lines) =
    codes "lrs: done " ++ (decimal rows ++ (codes " rows " ++ (decimal lines ++ codes " lines\n")))
status_text Usage = codes "lrs: usage: lrs convert / run LEDGER / resume LEDGER / status LEDGER / job / demo KIND N\n"
status_text (BadFile bad) =
    codes "lrs: bad file: " ++ (kind_text bad.kind ++ (codes " at line " ++ (decimal bad.line ++ codes "\n")))
status_text (BadJob place) = codes "lrs: bad job: line " ++ (decimal place ++ codes "\n")
status_text Infeasible = codes "lrs: infeasible\n"
status_text (Overflowed o) = codes "lrs: overflow " ++ (overflow_text o ++ codes "\n")
status_text ReadFault = codes "lrs: read fault\n"
status_text WriteFault = codes "lrs: write fault\n"
status_text DiskFault = codes "lrs: disk fault\n"
status_text (Lost lost strays) =
    codes "lrs: lost " ++ (decimal lost ++ (codes " strays " ++ (decimal strays ++ codes "\n")))
status_text NoRun = codes "lrs: no run in ledger\n"
status_text HasRun = codes "lrs: ledger has a run\n"
status_text (BadLedger place) = codes "lrs: bad ledger: record " ++ (decimal place ++ codes "\n")
status_text (LedgerLimit need limit) =
    codes "lrs: ledger limit: need " ++ (decimal need ++ (codes " limit " ++ (decimal limit ++ codes "\n")))
status_text OutOfMemory = codes "lrs: out of memory\n"

abbrev pub status_number : Status → ℕ
status_number (Done rows lines) = 0
status_number Usage = 2
status_number (BadFile bad) = 3
status_number Infeasible = 4
status_number (Overflowed o) = 5
status_number ReadFault = 6
status_number WriteFault = 7
status_number DiskFault = 8
status_number (Lost lost strays) = 9
status_number NoRun = 10
status_number HasRun = 11
status_number (BadLedger place) = 12
status_number (BadJob place) = 13
status_number (LedgerLimit need limit) = 14
status_number OutOfMemory = 15
