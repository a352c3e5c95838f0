use Rattle.codec.proofs.Coding.{each_code_is_shortest}
use Rattle.codec.proofs.Standing.{one_reading, written_reads_back, read_rewrites}
use Rattle.codec.proofs.numbers.number_laws.Goals as goal

pub returns : goal.returns
returns c = record { shortest = each_code_is_shortest; single = one_reading; back = written_reads_back; again = read_rewrites }
