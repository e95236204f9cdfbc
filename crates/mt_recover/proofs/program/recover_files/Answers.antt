use Rattle.std.proofs.Common.{map, arith}
use Rattle.std.proofs.lemmas.List.{length-map}
use Rattle.std.proofs.lemmas.List.Elements.{All-map}
use Rattle.mt_recover.specs.Program.{AreOfSomeFile}
use Rattle.mt_recover.proofs.program.recover_files.Goals as goal

pub returns-clause-store : goal.returns-clause-store
returns-clause-store g c =
    let files = c.in_ok-files.files in
    record {
      logs = map (λ file. file.items) files.items;
      number = omega (arith, length-map files.items (λ file. file.items), files.ok.0, c.in_ok-files.ensures.many);
      read = All-map (AreOfSomeFile g.R.File.Read.remaining) (λ file. file.items) files.items c.in_ok-files.ensures.read;
      is_store = rw c.deref.ensures.value at c.in_ok-recover_bytes.ensures;
    }
