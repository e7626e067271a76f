use Rattle.std.proofs.Common.{refl}
use Rattle.cpu_alu.specs.Arithmetic.{operated}
use Rattle.cpu_alu.proofs.ResultBounds.{cut_cut}
use Rattle.cpu_alu.proofs.laws.low_bits.Goals as goal

pub returns : goal.returns
returns c = record {
  both = λ op w a b f. λ i. operated op w (cut_cut w a i) (cut_cut w b i) f;
  inc = λ w a b c f. refl;
  dec = λ w a b c f. refl;
  neg = λ w a b c f. refl;
}
