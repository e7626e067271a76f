use Rattle.cpu_alu.proofs.FlagBits.{packed_bits, unpacked_back, packed_back}
use Rattle.cpu_alu.proofs.laws.word_of_flags.Goals as goal

pub returns : goal.returns
returns c = record { bits = packed_bits; unpacked = unpacked_back; packed = packed_back }
