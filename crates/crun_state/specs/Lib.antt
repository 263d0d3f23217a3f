-- of the code alone: what the public contracts cite stands in c_objects, c_hosts, crun_startup and crun_lines
pub mod Showing
