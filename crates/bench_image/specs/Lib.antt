pub mod BenchImage
