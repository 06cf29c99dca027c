use Rattle.sn_sound.proofs.DiskLemmas.{disk_clean}
use Rattle.sn_sound.proofs.VerdictLemmas.{clean_verdict, never_both}
use Rattle.sn_sound.proofs.FreeLemmas.{free_counted}
use Rattle.sn_sound.proofs.SoundLemmas.{root_clean}
use Rattle.sn_sound.proofs.laws.fault_laws.Goals as goal

pub returns-clause-root : goal.returns-clause-root
returns-clause-root c = root_clean

pub returns-clause-disk : goal.returns-clause-disk
returns-clause-disk c = disk_clean

pub returns-clause-free : goal.returns-clause-free
returns-clause-free c = free_counted

pub returns-clause-faulty : goal.returns-clause-faulty
returns-clause-faulty c = never_both

pub returns-clause-verdict : goal.returns-clause-verdict
returns-clause-verdict c = clean_verdict
